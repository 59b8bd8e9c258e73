use Rattle.elide_draw.proofs.course.open_timeline.Goals as goal

pub returns-in-Ok : goal.returns-in-Ok
returns-in-Ok g c = (c.in_ok-timeline.timeline, c.in_ok-timeline.ensures, c.tell_opening.ensures)
