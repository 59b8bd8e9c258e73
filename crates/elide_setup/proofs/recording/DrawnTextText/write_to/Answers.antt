use Rattle.std.proofs.Common.{◌≡◌, [], ℕ, List, Option, refl}
use Rattle.std.proofs.lemmas.Result.{IfOk-weaker}
use Rattle.std.specs.Io.KnownBytes.{Appends}
use Rattle.std.specs.Prelude.{is_some, not}
use Rattle.tm_model.specs.declared.outcome.Outcome.{Outcome}
use Rattle.tm_model.specs.declared.outcome.Pick.{Pick}
use Rattle.tm_schedule.specs.Schedule.{drawn_text}
use Rattle.tm_schedule.specs.ScheduleWriting.{left_text}
use Rattle.elide_setup.proofs.StepsKept.{all_written, whole_written}
use Rattle.elide_setup.specs.Drawing.{ComeAs, may_tell}
use Rattle.elide_device.specs.Gathering.{told}
use Rattle.elide_setup.specs.Rounds.{IsDrawnOut}
use Rattle.elide_setup.specs.Schedules.{picks_made, picks_told}
use Rattle.elide_setup.specs.Walks.{Leads}
use Rattle.elide_device.specs.declared.gathered.Gathered.{Gathered}
use Rattle.elide_setup.specs.declared.recording.Recorder.{Recorder}
use Rattle.elide_setup.proofs.recording.DrawnTextText.write_to.Goals as goal

pub returns-in-Ok-clause-written : goal.returns-in-Ok-clause-written
returns-in-Ok-clause-written g c =
    let held : Gathered g.row.O.Denot → Option (List ℕ) =
    λ m. told (g.O.Out.device m.out).contents (g.O.Out.device m.before.value).contents m.failures m.row.items in
    let page : Recorder g.row.O.Denot → Option (List ℕ) = λ r. held r.page in
    let left : Recorder g.row.O.Denot → List Pick → List ℕ = λ r. left_text r.writer in
    let drawn = c.args.self.now.drawn in
    let begun : Recorder g.row.O.Denot = record { writer = c.in_ok-writer.writer; page = c.begin.new.out } in
    let ended : Recorder g.row.O.Denot = c.walk_drawn.new.keeper in
    let first : Option (List ℕ) = (g.O.Out.device c.args.out).contents in
    let walked = c.in-Ok.ensures.walked in
    let text : List ℕ = drawn_text (may_tell drawn) (picks_told walked.0) in
    let events = c.may_tell.ensures in
    IfOk-weaker c.finish.result
    (λ (last : g.row.O.Denot). Appends (page ended) (g.O.Out.device last).contents (left ended []))
    (λ (last : g.row.O.Denot). (bytes : List ℕ)
    × ((c.args.self.now.maker.ghost_name ≡ c.args.self.now.maker.ghost_name)
    × (c.args.self.now.refused ≡ c.args.self.now.refused)
    × (steps : List (Pick × Outcome)) × ComeAs drawn (picks_made steps)
    × Leads g.S.StepMaker.takes c.args.self.now.maker.now steps c.walk_drawn.new.maker
    × (bytes ≡ drawn_text (may_tell drawn) (picks_told steps))
    × IsDrawnOut (not (is_some drawn.seed)) c.args.self.now.cores drawn.most steps)
    × Appends first (g.O.Out.device last).contents bytes)
    (λ last rest. (
      text,
      (refl, refl, walked.0, walked.1, walked.2, refl, walked.4),
      whole_written left page (may_tell drawn) walked.0 begun ended first (held c.new-page.result)
          (g.O.Out.device last).contents
          c.new-page.ensures.kept (rw events at c.in_ok-writer.ensures.title.bytes) c.in_ok-writer.ensures.begun
          (all_written left page walked.0 begun ended walked.3) rest,
    ))
    c.finish.ensures
