use Rattle.elide_setup.proofs.Made.{leads_within}
use Rattle.elide_setup.proofs.Runs.{run_of_all}
use Rattle.elide_setup.specs.Runs.{AreMachineSteps}
use Rattle.elide_draw.specs.declared.course.Counter.{Counter}
use Rattle.elide_draw.proofs.course.count_drawn.Goals as goal

pub returns-in-Ok : goal.returns-in-Ok
returns-in-Ok g c =
    let made = c.in-Ok.ensures.walked in
    let setup = c.args.setup.now in
    let first = c.in_ok-new_machine.field-0 in
    let last = c.walk-walked.new.maker.machine in (
      made.0,
      record {
        steps = made.1;
        machine = last;
        ran = run_of_all setup.program setup.limits made.0 first last c.in_ok-new_machine.ensures.made
            (leads_within AreMachineSteps (λ (m : Counter). m.machine) made.0 _ _ made.2);
      },
      made.3,
    )
