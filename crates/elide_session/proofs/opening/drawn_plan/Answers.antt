use Rattle.std.proofs.lemmas.Result.{IfErr-weaker, IfOk-weaker}
use Rattle.elide_setup.specs.Drawing.{ComeAs}
use Rattle.elide_setup.specs.Refused.{IsNoCore, IsNoWalk}
use Rattle.elide_setup.specs.Runs.{AreMachineSteps}
use Rattle.elide_setup.specs.declared.plan.Course.TheVariants as course
use Rattle.elide_session.proofs.Plans.{Walked, of_walk, plan_come, plan_run}
use Rattle.elide_session.specs.Opened.{AreDrawn, IsOutUnder}
use Rattle.elide_session.specs.Refused.{IsUndrawn}
use Rattle.elide_session.proofs.opening.drawn_plan.Goals as goal

pub returns-clause-come : goal.returns-clause-come
returns-clause-come c off none =
    let drawn = c.args.drawn in
    let setup = c.args.setup.now in
    IfOk-weaker c.walk.result (λ kept. Walked drawn c.cores.result c.in_ok-machine.machine c.walk.new.maker kept.items)
    (λ plan. ComeAs drawn plan.items)
    (λ kept h. plan_come drawn setup c.cores.result c.in_ok-machine.machine c.walk.new.maker kept.items off none
    c.in_ok-machine.ensures.made h)
    c.walk.ensures.walked

pub returns-clause-run : goal.returns-clause-run
returns-clause-run c =
    let drawn = c.args.drawn in
    let setup = c.args.setup.now in
    IfOk-weaker c.walk.result (λ kept. Walked drawn c.cores.result c.in_ok-machine.machine c.walk.new.maker kept.items)
    (λ plan. AreDrawn setup.program setup.limits (IsOutUnder (course.Drawn drawn)) plan.items)
    (λ kept h. plan_run drawn setup c.cores.result c.in_ok-machine.machine c.walk.new.maker kept.items
    c.in_ok-machine.ensures.made c.cores.ensures.number h)
    c.walk.ensures.walked

pub returns-clause-none : goal.returns-clause-none
returns-clause-none c =
    let drawn = c.args.drawn in
    let setup = c.args.setup.now in
    IfErr-weaker c.walk.result
    (IsNoWalk AreMachineSteps IsNoCore (course.Drawn drawn) c.cores.result c.in_ok-machine.machine) (IsUndrawn setup)
    (λ why h. of_walk drawn setup c.cores.result c.in_ok-machine.machine why c.in_ok-machine.ensures.made
    c.cores.ensures.number h)
    c.walk.ensures.refused
