use Rattle.std.proofs.Common.{[], ◌++◌, ◌∙◌, List, Option, ℕ, ap, append-nil, subst, sym}
use Rattle.text_out.proofs.Writing.{wrote_none}
use Rattle.text_out.specs.TextLine.{line_end}
use Rattle.text_out.specs.Writing.{Wrote, Writes}
use Rattle.tm_schedule.proofs.RunsWritten.{words_left}
use Rattle.tm_schedule.specs.ScheduleRuns.{run_word}
use Rattle.tm_schedule.specs.ScheduleWriting.{left_text}
use Rattle.tm_schedule.specs.declared.schedule.runs.Run.{Run}
use Rattle.tm_schedule.proofs.schedule.writer.ScheduleWriter.finish.Goals as goal

pub returns-in-Some : goal.returns-in-Some
unfolding left_text
returns-in-Some g c =
    subst (λ (text : List ℕ). Writes (g.O.Out.device c.args.out.now) (g.O.Out.device c.write_run.new.out) text
    c.write_run.result)
    (sym (ap (λ (run : Option Run). words_left c.args.self.column run []) c.in-Some.is
    ∙ append-nil (run_word c.in-Some.last ++ line_end)))
    c.write_run.ensures

pub returns-in-None : goal.returns-in-None
unfolding left_text
returns-in-None g c =
    subst (λ (run : Option Run). Wrote (g.O.Out.device c.args.out.now) (g.O.Out.device c.args.out.now)
    (words_left c.args.self.column run [])) (sym c.in-None.is)
    (wrote_none (g.O.Out.device c.args.out.now))
