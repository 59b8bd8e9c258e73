use Rattle.tm_core.specs.Theorem.{SameMachine}
use Rattle.tm_hunt.proofs.walker.Walker.go_on.Given as goal

abbrev pub invariant-steps : goal.invariant-steps
invariant-steps l = SameMachine l.fn.self.machine l.self.machine
