use Rattle.std.proofs.Common.{◌∙◌, ap, subst, sym}
use Rattle.tm_timeline.specs.Told.{Grows}
use Rattle.tm_timeline.specs.declared.timeline.Timeline.{Timeline}
use Rattle.elide_draw.proofs.course.run_watcher.Goals as goal

pub returns-in-Ok : goal.returns-in-Ok
returns-in-Ok g c =
    let h = c.in-Ok.ensures in
    let same = c.into_timeline.ensures in (
      h.0,
      h.1,
      c.make_steps.new.watcher.machine,
      h.2,
      h.3,
      h.4,
      ap (λ (t : Timeline). t.next) same ∙ h.5,
      subst (λ (t : Timeline). Grows h.3 t) (sym same) h.6,
    )
