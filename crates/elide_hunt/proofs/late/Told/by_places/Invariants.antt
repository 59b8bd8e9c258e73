use Rattle.std.specs.Prelude.{All}
use Rattle.elide_hunt.specs.Lates.{IsLate}
use Rattle.elide_hunt.proofs.late.Told.by_places.Given as goal

abbrev pub invariant-loop-delayed : goal.invariant-loop-delayed
invariant-loop-delayed l = All (IsLate l.self.trial l.self.failure.now) l.lates.items
