use Rattle.std.proofs.Common.{[], ◌∷◌, ◌++◌, ◌∙◌, Option, ap, sym}
use Rattle.text_out.proofs.Writing.{wrote_none}
use Rattle.tm_schedule.proofs.RunsWritten.{ended_left, first_left, longer_left, words_left}
use Rattle.tm_schedule.specs.ScheduleRuns.{run_word}
use Rattle.tm_schedule.specs.ScheduleWriting.{left_text}
use Rattle.tm_schedule.specs.declared.schedule.runs.Run.{Run}
use Rattle.tm_schedule.proofs.schedule.writer.ScheduleWriter.add.Goals as goal

pub returns-in-None : goal.returns-in-None
unfolding left_text
returns-in-None g c = (
  [],
  λ rest. first_left c.args.self.now.column c.args.self.now.run c.args.pick c.in-None.is rest,
  wrote_none (g.O.Out.device c.args.out.now),
)

pub returns-in-Some-with : goal.returns-in-Some-with
unfolding left_text
returns-in-Some-with g c = (
  [],
  λ rest. ap (λ (run : Option Run). words_left c.args.self.now.column run (c.args.pick ∷ rest)) c.in-Some.is
      ∙ longer_left c.args.self.now.column c.in-Some.last c.in-Some-with.longer c.args.pick
      (sym c.in-Some-with.ensures) rest,
  wrote_none (g.O.Out.device c.args.out.now),
)

pub returns-in-None-with : goal.returns-in-None-with
unfolding left_text
returns-in-None-with g c = (
  run_word c.in-Some.last ++ c.separator-behind.result.now,
  λ rest. ap (λ (run : Option Run). words_left c.args.self.now.column run (c.args.pick ∷ rest)) c.in-Some.is
      ∙ ended_left c.args.self.now.column c.in-Some.last c.args.pick c.separator-behind.result.now
      (sym c.in-None-with.ensures) c.separator-behind.ensures.text rest,
  c.write_run.ensures,
)
