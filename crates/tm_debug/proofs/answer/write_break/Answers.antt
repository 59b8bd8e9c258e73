use Rattle.std.proofs.Common.{◌≡◌, ◌++◌, List, ℕ, rules, subst}
use Rattle.text_out.specs.TextLine.{line_end}
use Rattle.text_out.specs.Writing.{Stopped, Wrote}
use Rattle.text_out.proofs.Writing.{writes_stopped, writes_then}
use Rattle.debug_command.specs.Places.{place_text}
use Rattle.tm_debug.specs.Session.{break_front}
use Rattle.tm_debug.proofs.answer.write_break.Goals as goal

pub returns-in_err-put : goal.returns-in_err-put
returns-in_err-put g c =
    let front : c.as_slice.result.now ≡ break_front c.args.core c.args.address = search rules in
    writes_stopped (place_text c.args.labels.now c.args.address ++ line_end) c.from_residual.result (search rules)
    (subst (λ (t : List ℕ). Stopped (g.O.Out.device c.args.out.now) (g.O.Out.device c.put.new.self) t) front
    c.in_err-put.ensures)

pub returns : goal.returns
returns g c =
    let front : c.as_slice.result.now ≡ break_front c.args.core c.args.address = search rules in
    writes_then (g.O.Out.device c.end_line.new.out) (place_text c.args.labels.now c.args.address ++ line_end)
    c.end_line.result
    (subst (λ (t : List ℕ). Wrote (g.O.Out.device c.args.out.now) (g.O.Out.device c.put.new.self) t) front
    c.in_ok-put.ensures) c.end_line.ensures
