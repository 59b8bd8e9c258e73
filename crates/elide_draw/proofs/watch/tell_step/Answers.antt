use Rattle.elide_setup.proofs.Records.{kept_on_ok}
use Rattle.elide_draw.proofs.Telling.{same_self, told_between, told_one}
use Rattle.elide_draw.proofs.watch.tell_step.Goals as goal

pub returns : goal.returns
returns g c =
    let step = c.args.step.now in
    kept_on_ok c.tell_deed.result
    (told_between _ _ _ _ _ (same_self c.args.timeline.now)
    (told_one c.args.timeline.now c.note.new.self step.pick step.outcome c.note.ensures.next c.note.ensures.grows
    c.in_ok-note.ensures.bar)
    c.tell_deed.ensures)
