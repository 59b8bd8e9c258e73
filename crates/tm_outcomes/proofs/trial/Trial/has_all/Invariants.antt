use Rattle.std.specs.List.{AllWithin}
use Rattle.tm_outcomes.specs.Outcomes.{IsThere}
use Rattle.tm_outcomes.proofs.trial.Trial.has_all.Given as goal

abbrev pub invariant-loop-item : goal.invariant-loop-item
invariant-loop-item l = AllWithin (IsThere l.self) l.self.items.now 0 l.item-index
