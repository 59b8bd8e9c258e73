use Rattle.tm_core.specs.Theorem.{SameMachine}
use Rattle.tm_hunt.proofs.early.behind_store.Given as goal

abbrev pub invariant-steps : goal.invariant-steps
invariant-steps l = SameMachine l.fn.machine l.machine
