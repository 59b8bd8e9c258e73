use Rattle.std.proofs.lemmas.Result.{on_ok_weaker}
use Rattle.elide_setup.specs.Made.{HasRunPlan}
use Rattle.elide_draw.proofs.command.draw_plan.Goals as goal

pub returns : goal.returns
returns g c =
    let asked = c.args.asked.now in
    let made = c.in_ok-loaded.ensures.loaded in
    let given = g.P.Paths.content c.load.new.paths in
    let left = g.P.Paths.content c.draw_loaded-drawn.new.paths in
    on_ok_weaker c.draw_loaded-drawn.result
    (λ (run : HasRunPlan given left made.0 asked.settings c.args.plan asked.path).
    (made.0, given, made.1, c.load.ensures.kept, run))
    (c.draw_loaded-drawn.ensures made.0 asked.settings made.2)
