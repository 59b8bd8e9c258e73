use Rattle.std.proofs.Common.{◌≡◌, ◌+◌, ◌-◌, sym, ap, ◌∙◌}
use Rattle.ia_word.specs.Line.{line, last_line}
use Rattle.tm_buffer.specs.Buffer.{lines_of, with_line}
use Rattle.tm_buffer.proofs.Orders.{one_given}
use Rattle.tm_buffer.proofs.stored.Buffer.put.Goals as goal

pub returns-clause-lines : goal.returns-clause-lines
returns-clause-lines c =
    let one : last_line c.args.address c.args.width ≡ line c.args.address =
    sym (c.line_of.ensures ∙ ap (λ b. line (c.args.address + (b - 1))) c.bytes.ensures) ∙ c.if-line_of-line.false
    ∙ c.line_of-line.ensures in
    ap (λ h. lines_of h.order) c.self.view_is
    ∙ ap lines_of
    (c.write_in.ensures.lines.0 ∙ c.in_ok-place.ensures.order
    ∙ ap (with_line c.args.self.now.order) c.line_of-line.ensures)
    ∙ one_given c.args.self.now.order (line c.args.address) (last_line c.args.address c.args.width) one
