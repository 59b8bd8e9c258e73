use Rattle.tm_hunt.specs.Chase.{SameChase}
use Rattle.tm_hunt.proofs.chase.Chase.meet.Given as goal

abbrev pub invariant-turns : goal.invariant-turns
invariant-turns l = SameChase l.fn.self l.self
