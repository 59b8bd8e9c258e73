use Rattle.elide_draw.proofs.Telling.{walk_told}
use Rattle.elide_draw.proofs.course.make_steps.Goals as goal

pub returns : goal.returns
returns g c =
    let made = c.in_ok-walk.ensures.walked in
    let both = walk_told c.args.watcher.now c.walk.new.maker (λ m. m.machine) (λ m. m.timeline) made.0 made.2 in
    (made.0, made.1, both.0, c.walk.new.maker.timeline, both.1, c.finish.ensures.next, c.finish.ensures.grows)
