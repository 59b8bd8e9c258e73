use Rattle.std.proofs.Common.{List, ℕ, rules, subst}
use Rattle.text_out.proofs.Writing.{writes_stopped, writes_then}
use Rattle.text_out.specs.Writing.{Writes}
use Rattle.tm_schedule.specs.Schedule.{runs_text}
use Rattle.tm_schedule.proofs.schedule.writing.write_drawn.Goals as goal

pub returns-in_err-writer : goal.returns-in_err-writer
returns-in_err-writer g c =
    writes_stopped (runs_text c.args.picks.now) c.from_residual.result (search rules) c.in_err-writer.ensures.title

pub returns : goal.returns
returns g c =
    writes_then _ (runs_text c.args.picks.now) c.write_steps.result c.in_ok-writer.ensures.title
    (subst (λ (text : List ℕ). Writes (g.O.Out.device c.begin.new.out) (g.O.Out.device c.write_steps.new.out) text
    c.write_steps.result)
    (c.in_ok-writer.ensures.begun c.args.picks.now) c.write_steps.ensures)
