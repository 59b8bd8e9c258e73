use Rattle.std.proofs.Common.{arith, subst}
use Rattle.tm_schedule.specs.Schedule.{drawn_text}
use Rattle.elide_setup.proofs.Records.{held_same}
use Rattle.elide_setup.specs.Drawing.{may_tell}
use Rattle.elide_setup.specs.Schedules.{picks_told}
use Rattle.elide_setup.specs.Walks.{Leads}
use Rattle.elide_setup.proofs.recording.walk_to_file.Goals as goal

pub returns-in-Ok-clause-walked : goal.returns-in-Ok-clause-walked
returns-in-Ok-clause-walked g c =
    let whole = c.in-Ok.ensures.written in
    let made = whole.1 in
    let lent = made.0 in (
      made.2,
      made.3,
      subst (λ (last : g.row.S.Denot). Leads g.S.StepMaker.takes c.args.maker.now made.2 last)
          (grind (arith, lent)) made.4,
      held_same (g.P.Paths.content c.write-written.new.self c.args.path.now) whole.0
          (drawn_text (may_tell c.args.drawn) (picks_told made.2)) made.5 whole.2,
      made.6,
    )
