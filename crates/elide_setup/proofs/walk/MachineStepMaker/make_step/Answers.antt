use Rattle.std.proofs.Common.{None, Some}
use Rattle.elide_setup.proofs.NoSteps.{no_core_told}
use Rattle.elide_setup.proofs.Runs.{machine_step}
use Rattle.elide_setup.proofs.walk.MachineStepMaker.make_step.Goals as goal

pub returns-in-None-clause-made : goal.returns-in-None-clause-made
returns-in-None-clause-made c =
    machine_step None c.args.self.now c.step.new.self c.args.pick c.step.result c.told.result c.in-None.is
    c.step.ensures.same
    c.step.ensures.ok c.step.ensures.run c.told.ensures.made

pub returns-in-Some-clause-made : goal.returns-in-Some-clause-made
returns-in-Some-clause-made c =
    machine_step (Some c.in-Some.event) c.args.self.now c.step_under.new.self c.args.pick c.step_under.result
    c.told-in-Some.result
    c.in-Some.is c.step_under.ensures.same c.step_under.ensures.ok c.step_under.ensures.run c.told-in-Some.ensures.made

pub returns-in-None-clause-refused : goal.returns-in-None-clause-refused
returns-in-None-clause-refused c =
    no_core_told c.args.self.now c.args.pick c.step.result c.told.result c.step.ensures.exists c.told.ensures.refused

pub returns-in-Some-clause-refused : goal.returns-in-Some-clause-refused
returns-in-Some-clause-refused c =
    no_core_told c.args.self.now c.args.pick c.step_under.result c.told-in-Some.result c.step_under.ensures.exists
    c.told-in-Some.ensures.refused
