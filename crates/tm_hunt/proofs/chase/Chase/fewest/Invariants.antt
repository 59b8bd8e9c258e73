use Rattle.tm_hunt.specs.Chase.{SameChase}
use Rattle.tm_hunt.proofs.chase.Chase.fewest.Given as goal

abbrev pub invariant-rounds : goal.invariant-rounds
invariant-rounds l = SameChase l.fn.self l.self
