use Rattle.std.proofs.Common.{◌≡◌, ◌+◌, ◌-◌, length, true, sym, ap, ◌∙◌, arith}
use Rattle.std.proofs.lemmas.Bool.{lt-ltb, le-ltb}
use Rattle.ia_word.specs.Line.{line, last_line, lines}
use Rattle.tm_buffer.specs.Buffer.{holds, with_line, with_lines, lines_of}
use Rattle.tm_buffer.proofs.Orders.{two_lines, lines_two, holds_own, holds_still}
use Rattle.tm_buffer.proofs.stored.Buffer.reserve.Goals as goal
use Rattle.tm_buffer.proofs.stored.Buffer.reserve.Goals.{After-line_of-last}

last_is : (c : After-line_of-last) → c.line_of-last.result ≡ last_line c.args.address c.args.width
last_is c = c.line_of-last.ensures ∙ ap (λ b. line (c.args.address + (b - 1))) c.bytes.ensures

-- the order with the lines of the access
grown : (c : After-line_of-last)
    → with_line (with_line c.args.self.now.order c.line_of-first.result) c.line_of-last.result
    ≡ with_lines c.args.self.now.order (lines c.args.address c.args.width)
grown c =
    (λ i. with_line (with_line c.args.self.now.order (c.line_of-first.ensures i)) (last_is c i))
    ∙ two_lines c.args.self.now.order (line c.args.address) (last_line c.args.address c.args.width)

pub returns-then-used_with-self-clause-full : goal.returns-then-used_with-self-clause-full
returns-then-used_with-self-clause-full c =
    let count =
    c.used_with.ensures ∙ ap length (grown (goal.at.returns-then-used_with-self-clause-full c).After-line_of-last) in
    sym (lt-ltb _ _ (omega (arith, ap (λ h. h.room) c.self.view_is, count, c.if-used_with-self.true)))

pub returns-clause-full : goal.returns-clause-full
returns-clause-full c =
    let count = c.used_with.ensures ∙ ap length (grown (goal.at.returns-clause-full c).After-line_of-last) in
    sym (le-ltb _ _ (omega (arith, ap (λ h. h.room) c.self.view_is, count, c.if-used_with-self.false)))

pub returns-clause-order : goal.returns-clause-order
returns-clause-order c =
    c.take-2.ensures.order ∙ ap (λ xs. with_line xs c.line_of-last.result) c.take.ensures.order
    ∙ grown (goal.at.returns-clause-order c).After-line_of-last

pub returns-clause-lines : goal.returns-clause-lines
returns-clause-lines c =
    ap lines_of (c.take-2.ensures.order ∙ ap (λ xs. with_line xs c.line_of-last.result) c.take.ensures.order
    ∙ grown (goal.at.returns-clause-lines c).After-line_of-last)
    ∙ lines_two c.args.self.now.order (line c.args.address) (last_line c.args.address c.args.width)

pub returns-clause-first : goal.returns-clause-first
returns-clause-first c =
    let own : holds c.take.new.self.order (line c.args.address) ≡ true =
    ap (λ xs. holds xs (line c.args.address))
    (c.take.ensures.order ∙ ap (with_line c.args.self.now.order) c.line_of-first.ensures)
    ∙ holds_own c.args.self.now.order (line c.args.address) in
    ap (λ xs. holds xs (line c.args.address)) c.take-2.ensures.order
    ∙ holds_still c.take.new.self.order c.line_of-last.result (line c.args.address) own

pub returns-clause-last : goal.returns-clause-last
returns-clause-last c =
    let last = last_is (goal.at.returns-clause-last c).After-line_of-last in
    ap (λ xs. holds xs (last_line c.args.address c.args.width))
    (c.take-2.ensures.order ∙ ap (with_line c.take.new.self.order) last)
    ∙ holds_own c.take.new.self.order (last_line c.args.address c.args.width)
