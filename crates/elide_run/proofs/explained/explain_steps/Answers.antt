use Rattle.elide_run.proofs.Refusing.{of_told}
use Rattle.elide_run.proofs.explained.explain_steps.Goals as goal

pub make_steps-requires : goal.make_steps-requires
make_steps-requires g c machine pick why h = of_told machine pick why h
