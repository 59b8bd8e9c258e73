use Rattle.std.proofs.Common.{◌+◌, ◌%◌, ◌^◌, ◌∙◌, ap, arith, drop, refl, rules}
use Rattle.text_out.proofs.Writing.{rest_is}
use Rattle.tm_debug.proofs.Parts.{lines_stopped, lines_then, no_lines}
use Rattle.tm_debug.proofs.answer.+write_lines.Goals as goal

pub returns-then-count-eq0 : goal.returns-then-count-eq0
returns-then-count-eq0 g t c = no_lines (g.O.Out.device c.args.out.now) c.args.labels.now c.args.count c.args.code.now
    c.args.at (let e = c.if-count-eq0.true in omega arith)

pub returns-in_err-shown : goal.returns-in_err-shown
returns-in_err-shown g t c =
    lines_stopped c.args.labels.now c.args.count c.args.code.now c.args.at c.from_residual.result
    (let e = c.if-count-eq0.false in omega arith) (search rules) c.in_err-shown.ensures.text

pub returns : goal.returns
returns g t c =
    let same = c.from.ensures in
    lines_then _ c.args.labels.now c.args.count _ c.in_ok-shown.shown c.args.code.now _ c.args.at _ c.write_lines.result
    (let e = c.if-count-eq0.false in omega arith) refl
    c.in_ok-shown.ensures.shown
    (rest_is c.args.code.now c.from.result (let w = c.in_ok-shown.ensures.within in omega arith)
    ∙ ap (λ k. drop k c.args.code.now) same)
    (ap (λ k. (c.args.at + k) % 2 ^ 32) c.from-2.ensures) c.in_ok-shown.ensures.text c.write_lines.ensures
