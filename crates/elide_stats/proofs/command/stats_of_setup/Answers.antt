use Rattle.std.proofs.Common.{[], ◌∙◌, List, ap, inr, length, sym, subst}
use Rattle.std.proofs.lemmas.Result.{err_from_is_err_and, on_ok_weaker}
use Rattle.elide_setup.proofs.Runs.{run_of_all}
use Rattle.elide_setup.specs.Recorded.{IsRecorded}
use Rattle.elide_setup.specs.Runs.{AreMachineSteps, IsRunOf}
use Rattle.elide_setup.specs.Schedules.{AreOf, picks_made, picks_told, schedule_made}
use Rattle.tm_core.specs.Theorem.{ShownMachine}
use Rattle.elide_setup.specs.Walks.{Leads}
use Rattle.tm_model.specs.declared.outcome.Outcome.{Outcome}
use Rattle.tm_model.specs.declared.outcome.Pick.{Pick}
use Rattle.elide_stats.specs.Refused.{unmade, untold}
use Rattle.elide_stats.proofs.command.stats_of_setup.Goals as goal

pub returns-clause-ran : goal.returns-clause-ran
returns-clause-ran g c =
    let setup = c.args.ready.setup.now in
    let course = c.args.ready.course.now in
    let left = g.P.Paths.content c.stats_of_course-told.new.paths in
    let first = c.in_ok-counting.counting.machine in
    let begun : IsRunOf setup.program setup.limits [] first =
    subst (λ (m : ShownMachine). IsRunOf setup.program setup.limits [] m) (sym c.in_ok-counting.ensures.machine)
    c.in_ok-machine.ensures.made in
    on_ok_weaker c.stats_of_course-told.result
    (λ (h :
    (made : List (Pick × Outcome)) × (after : ShownMachine) × AreOf course (picks_made made)
    × Leads AreMachineSteps first made after
    × IsRecorded left c.args.ready.asked.now.path (schedule_made course (picks_told made))). record {
      made = h.0;
      steps = h.2;
      machine = h.1;
      ran = run_of_all setup.program setup.limits h.0 first h.1 begun h.3;
      recorded = h.4;
    })
    c.stats_of_course-told.ensures.ran

pub stats_of_course-told-requires-clause-cores : goal.stats_of_course-told-requires-clause-cores
stats_of_course-told-requires-clause-cores g c =
    ap (λ (m : ShownMachine). length m.views) c.in_ok-counting.ensures.machine ∙ c.in_ok-machine.ensures.cores

pub returns-in_err-machine-clause-refused : goal.returns-in_err-machine-clause-refused
returns-in_err-machine-clause-refused g c =
    let p = err_from_is_err_and c.from_residual.result c.from_residual.ensures.1 in
    rw (p.1, p.2) (unmade c.in_err-machine.ensures.none)

pub returns-in_err-counting-clause-refused : goal.returns-in_err-counting-clause-refused
returns-in_err-counting-clause-refused g c =
    let p = err_from_is_err_and c.from_residual-in_err-counting.result c.from_residual-in_err-counting.ensures.1 in
    rw (p.1, p.2) (untold (inr c.in_err-counting.ensures.none))
