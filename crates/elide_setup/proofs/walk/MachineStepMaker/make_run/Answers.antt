use Rattle.std.proofs.Common.{[], ◌∷◌, refl}
use Rattle.elide_setup.proofs.Alone.{machine_ran}
use Rattle.elide_setup.proofs.NoSteps.{no_core_told}
use Rattle.elide_setup.specs.Schedules.{lone_pick}
use Rattle.elide_setup.proofs.walk.MachineStepMaker.make_run.Goals as goal

pub returns-then-stores-eq0-clause-steps : goal.returns-then-stores-eq0-clause-steps
returns-then-stores-eq0-clause-steps c =
    machine_ran c.args.self.now c.steps_alone.new.self c.args.core c.steps_alone.result c.told.result
    c.nothing_pending.ensures.most c.nothing_pending.ensures.none c.steps_alone.ensures.steps
    c.told.ensures.made

pub returns-then-stores-eq0-clause-refused : goal.returns-then-stores-eq0-clause-refused
returns-then-stores-eq0-clause-refused c =
    no_core_told c.args.self.now (lone_pick c.args.core) c.steps_alone.result c.told.result c.steps_alone.ensures.exists
    c.told.ensures.refused

pub returns-clause-steps : goal.returns-clause-steps
returns-clause-steps c = ((_, c.in_ok-make_step.field-0) ∷ [], refl, c.in_ok-make_step.ensures.made)
