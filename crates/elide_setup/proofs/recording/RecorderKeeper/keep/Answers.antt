use Rattle.std.proofs.Common.{◌∷◌, ◌∙◌, ap, sym}
use Rattle.tm_model.specs.declared.outcome.Pick.{Pick}
use Rattle.tm_schedule.specs.ScheduleWriting.{left_text}
use Rattle.elide_setup.proofs.recording.RecorderKeeper.keep.Goals as goal

pub returns-in-Ok-clause-kept : goal.returns-in-Ok-clause-kept
returns-in-Ok-clause-kept g c = (
  c.in-Ok.ensures.0,
  λ rest. ap (λ (pick : Pick). left_text c.args.self.now.writer (pick ∷ rest)) (sym c.pick_told.ensures)
      ∙ c.in-Ok.ensures.1 rest,
  c.in-Ok.ensures.2.bytes,
)
