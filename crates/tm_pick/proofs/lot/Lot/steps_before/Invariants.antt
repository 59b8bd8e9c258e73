use Rattle.std.proofs.Common.{◌≡◌}
use Rattle.tm_pick.proofs.lot.Lot.steps_before.Given as goal

abbrev pub invariant-loop-quiet : goal.invariant-loop-quiet
invariant-loop-quiet l = record { kinds : l.self.kinds ≡ l.initial.self.kinds }
