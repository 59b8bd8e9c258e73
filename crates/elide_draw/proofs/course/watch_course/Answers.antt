use Rattle.std.proofs.Common.{◌≡◌, List}
use Rattle.std.proofs.lemmas.Result.{IfOk-weaker}
use Rattle.elide_setup.proofs.Runs.{run_of_all}
use Rattle.elide_setup.specs.Runs.{AreMachineSteps}
use Rattle.elide_setup.specs.Schedules.{AreOf, picks_made}
use Rattle.tm_core.specs.Theorem.{ShownMachine}
use Rattle.elide_setup.specs.Walks.{Leads}
use Rattle.tm_model.specs.declared.outcome.Outcome.{Outcome}
use Rattle.tm_model.specs.declared.outcome.Pick.{Pick}
use Rattle.tm_timeline.specs.Told.{Grows}
use Rattle.tm_timeline.specs.declared.timeline.Timeline.{Timeline}
use Rattle.elide_draw.specs.Told.{AreTold, IsToldOf}
use Rattle.elide_draw.specs.Watched.{IsWatched}
use Rattle.elide_draw.proofs.Telling.{told_of}
use Rattle.elide_draw.proofs.course.watch_course.Goals as goal

pub returns-in-Ok : goal.returns-in-Ok
returns-in-Ok g c =
    let setup = c.args.setup.now in
    let course = c.args.course.now in
    let first = c.in_ok-machine.machine in
    let begun = c.in-Ok.timeline in
    let opened = c.in-Ok.ensures in
    IfOk-weaker c.run_watcher.result
    (λ (done : Timeline). (made : List (Pick × Outcome)) × AreOf course (picks_made made) × (after : ShownMachine)
    × Leads AreMachineSteps first made after
    × (last : Timeline) × AreTold begun made last × (done.next ≡ last.next) × Grows last done)
    (λ (done : Timeline). (made : List (Pick × Outcome)) × IsWatched setup course made
    × IsToldOf c.args.window made done)
    (λ done h. (
      h.0,
      record {
        steps = h.1;
        machine = h.2;
        ran = run_of_all setup.program setup.limits h.0 first h.2 c.in_ok-machine.ensures.made h.3;
      },
      told_of c.args.window h.0 opened.0 begun h.4 done opened.1 opened.2 h.5 h.6 h.7,
    ))
    c.run_watcher.ensures
