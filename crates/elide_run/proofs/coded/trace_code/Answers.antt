use Rattle.elide_run.proofs.coded.trace_code.Goals as goal

pub make_steps-requires : goal.make_steps-requires
make_steps-requires g c machine pick why h = h
