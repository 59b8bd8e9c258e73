use Rattle.std.proofs.Common.{List, ℕ, refl, rules, subst}
use Rattle.text_out.proofs.Writing.{writes_err}
use Rattle.text_out.specs.Writing.{Stopped, Wrote}
use Rattle.tm_schedule.proofs.RunsBack.{drawn_back}
use Rattle.tm_schedule.specs.Schedule.{title_line}
use Rattle.tm_schedule.specs.ScheduleWriting.{left_text}
use Rattle.tm_schedule.proofs.schedule.writer.ScheduleWriter.begin.Goals as goal

pub returns-in_err-put-clause-title : goal.returns-in_err-put-clause-title
returns-in_err-put-clause-title g c =
    writes_err (title_line c.args.has_events) c.from_residual.result (search rules)
    (subst (λ (text : List ℕ). Stopped (g.O.Out.device c.args.out.now) (g.O.Out.device c.put.new.self) text)
    c.title_line.ensures c.in_err-put.ensures)

pub returns-in_err-put-clause-read_back : goal.returns-in_err-put-clause-read_back
returns-in_err-put-clause-read_back g c picks bytes few under = drawn_back c.args.has_events picks bytes few under

pub returns-clause-title : goal.returns-clause-title
returns-clause-title g c =
    subst (λ (text : List ℕ). Wrote (g.O.Out.device c.args.out.now) (g.O.Out.device c.put.new.self) text)
    c.title_line.ensures c.in_ok-put.ensures

pub returns-clause-begun : goal.returns-clause-begun
unfolding left_text
returns-clause-begun g c picks = refl

pub returns-clause-read_back : goal.returns-clause-read_back
returns-clause-read_back g c picks bytes few under = drawn_back c.args.has_events picks bytes few under
