use Rattle.std.proofs.lemmas.Result.{on_ok_weaker}
use Rattle.elide_setup.proofs.Made.{of_course}
use Rattle.elide_draw.proofs.command.draw_loaded.Goals as goal

pub returns : goal.returns
returns g c file settings is =
    let drawing = c.args.drawing in
    on_ok_weaker c.draw_course-drawn.result
    (of_course (g.P.Paths.content c.args.paths.now) (g.P.Paths.content c.draw_course-drawn.new.paths) file settings
    c.args.plan drawing.asked.now.path
    drawing.setup.now c.in_ok-course.course is c.in_ok-course.ensures.steps c.in_ok-course.ensures.listed)
    c.draw_course-drawn.ensures
