use Rattle.std.proofs.Common.{◌≡◌, ◌+◌, ◌-◌, ℕ, sym, ap, ◌∙◌, arith, subst, Option, Some}
use Rattle.ia_word.specs.Line.{line, last_line}
use Rattle.tm_buffer.specs.Buffer.{BufferValue, IsSlotOf, lines_of, place_of, with_line}
use Rattle.tm_buffer.proofs.Holding.{same_behind, place_still}
use Rattle.tm_buffer.proofs.Orders.{one_given, two_given}
use Rattle.tm_buffer.proofs.stored.Buffer.put_at.Goals as goal

-- what is asked of a slot that is given
given : (b : BufferValue) (l got slot : ℕ) (o : Option ℕ) → o ≡ Some slot → got ≡ l → IsSlotOf b l o
    → place_of b.order got ≡ place_of b.slots slot
given b l got slot o is same h =
    let told : IsSlotOf b l (Some slot) = subst (IsSlotOf b l) is h in ap (place_of b.order) same ∙ told.1

pub take_at-last-requires-clause-same : goal.take_at-last-requires-clause-same
take_at-last-requires-clause-same c =
    let old : BufferValue = c.args.self.now in
    let end : c.line_of-end.result ≡ last_line c.args.address c.args.width =
    c.line_of-end.ensures ∙ sym (ap (last_line c.args.address) c.in-D.is) in
    let apart : c.line_of-in-D.result ≡ c.line_of-end.result → ⊥ =
    λ e. c.if-end-line_of.false (sym e ∙ c.line_of-in-D.ensures ∙ sym c.line_of-in-D-2.ensures) in
    let other : c.unwrap-in-D.result ≡ c.unwrap-else-end-line_of.result → ⊥ =
    λ e. c.requires.apart (c.unwrap-in-D.ensures ∙ ap Some e ∙ sym c.unwrap-else-end-line_of.ensures) in
    let first :
    place_of c.args.self.now.order c.line_of-in-D.result ≡ place_of c.args.self.now.slots c.unwrap-in-D.result =
    given c.args.self.now (line c.args.address) c.line_of-in-D.result c.unwrap-in-D.result _ c.unwrap-in-D.ensures
    c.line_of-in-D.ensures c.requires.first in
    let last :
    place_of c.args.self.now.order c.line_of-end.result
    ≡ place_of c.args.self.now.slots c.unwrap-else-end-line_of.result =
    given c.args.self.now (last_line c.args.address c.args.width) c.line_of-end.result c.unwrap-else-end-line_of.result
    _ c.unwrap-else-end-line_of.ensures end
    (c.requires.last (λ e. c.if-end-line_of.false (end ∙ e ∙ sym c.line_of-in-D-2.ensures))) in
    ap (λ xs. place_of xs c.line_of-end.result) c.take_at-place-in-D.ensures.order
    ∙ same_behind c.args.self.now.order c.args.self.now.slots c.line_of-end.result c.unwrap-else-end-line_of.result
    c.line_of-in-D.result c.unwrap-in-D.result apart other first last
    ∙ sym (ap (λ xs. place_of xs c.unwrap-else-end-line_of.result) c.take_at-place-in-D.ensures.slots)

pub write_over_end-requires-clause-first : goal.write_over_end-requires-clause-first
write_over_end-requires-clause-first c =
    ap (λ xs. place_of xs (line c.args.address)) c.take_at-last.ensures.order
    ∙ place_still c.take_at-place-in-D.new.self.order (line c.args.address) c.line_of-end.result
    c.take_at-place-in-D.result
    (ap (place_of c.take_at-place-in-D.new.self.order) (sym c.line_of-in-D.ensures)
    ∙ c.take_at-place-in-D.ensures.place)

pub returns-in-B-clause-lines : goal.returns-in-B-clause-lines
returns-in-B-clause-lines c =
    let byte : line (c.args.address + (1 - 1)) ≡ line c.args.address = omega arith in
    ap lines_of
    (c.write_at.ensures.lines.0 ∙ c.take_at-place.ensures.order
    ∙ ap (with_line c.args.self.now.order) c.line_of.ensures)
    ∙ one_given c.args.self.now.order (line c.args.address) (last_line c.args.address c.args.width)
    (ap (last_line c.args.address) c.in-B.is ∙ byte)

pub returns-then-end-line_of-clause-lines : goal.returns-then-end-line_of-clause-lines
returns-then-end-line_of-clause-lines c =
    ap lines_of
    (c.write_run.ensures.lines.0 ∙ c.take_at-place-in-D.ensures.order
    ∙ ap (with_line c.args.self.now.order) c.line_of-in-D.ensures)
    ∙ one_given c.args.self.now.order (line c.args.address) (last_line c.args.address c.args.width)
    (ap (last_line c.args.address) c.in-D.is ∙ sym c.line_of-end.ensures ∙ c.if-end-line_of.true
    ∙ c.line_of-in-D-2.ensures)

pub returns-else-end-line_of-clause-lines : goal.returns-else-end-line_of-clause-lines
returns-else-end-line_of-clause-lines c =
    let end : c.line_of-end.result ≡ last_line c.args.address c.args.width =
    c.line_of-end.ensures ∙ sym (ap (last_line c.args.address) c.in-D.is) in
    ap lines_of (c.write_over_end.ensures.lines.0 ∙ c.take_at-last.ensures.order
    ∙ ap (λ xs. with_line xs c.line_of-end.result)
    (c.take_at-place-in-D.ensures.order ∙ ap (with_line c.args.self.now.order) c.line_of-in-D.ensures)
    ∙ ap (with_line (with_line c.args.self.now.order (line c.args.address))) end)
    ∙ two_given c.args.self.now.order (line c.args.address) (last_line c.args.address c.args.width)
