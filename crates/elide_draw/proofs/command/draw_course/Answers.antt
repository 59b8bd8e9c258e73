use Rattle.std.proofs.Common.{Bool, subst}
use Rattle.std.proofs.lemmas.Result.{on_ok_weaker}
use Rattle.elide_setup.specs.Recorded.{IsRecorded}
use Rattle.elide_setup.specs.Schedules.{schedule_made}
use Rattle.elide_draw.specs.Watched.{IsTally}
use Rattle.elide_draw.proofs.Recording.{has_run}
use Rattle.elide_draw.proofs.command.draw_course.Goals as goal

pub returns : goal.returns
returns g c =
    let left = g.P.Paths.content c.record_drawn-drawn.new.paths in
    let setup = c.args.drawing.setup.now in
    let course = c.args.course.now in
    let path = c.args.drawing.asked.now.path in
    let made = c.in_ok-tally.tally.made.items in
    on_ok_weaker c.record_drawn-drawn.result
    (λ (h : IsRecorded left path (schedule_made course made)).
    has_run left setup course path made
    (c.in_ok-timeline.ensures.0, c.in_ok-timeline.ensures.1)
    (subst (λ (keeps : Bool). IsTally setup course keeps made) c.is_some.ensures c.in_ok-tally.ensures) h)
    c.record_drawn-drawn.ensures
