use Rattle.tm_hunt.specs.Chase.{SameChase}
use Rattle.tm_hunt.proofs.chase.Chase.go_side_by_side.Given as goal

abbrev pub invariant-steps : goal.invariant-steps
invariant-steps l = SameChase l.fn.self l.self
