use Rattle.std.proofs.Common.{◌≡◌, ◌<◌, length, get_or, vec_len, sym, ap, ◌∙◌, arith, rules}
use Rattle.std.proofs.lemmas.List.{get_or_read}
use Rattle.tm_buffer.specs.Buffer.{place_of}
use Rattle.tm_buffer.proofs.Holding.{no_place}
use Rattle.tm_buffer.proofs.stored.Buffer.place_at.Goals as goal
use Rattle.tm_buffer.proofs.stored.Buffer.place_at.Goals.{else-place-len-via-then-place-len+else-index-line}
use Rattle.tm_buffer.proofs.stored.Buffer.place_at.Goals.{else-place-len-via-else-place-len}

pub returns-else-place-len : goal.returns-else-place-len
returns-else-place-len c =
    let lines : vec_len c.self.inside.lines ≡ length c.self.inside.lines.items = search rules in
    let low : c.args.slot < c.self.inside.room = omega (arith, c.requires.low, ap (λ h. h.room) c.self.view_is) in
    let told : c.index.result.now ≡ get_or c.self.inside.places.items c.args.slot 0 =
    get_or_read c.self.inside.places.items c.args.slot c.index.result.now
    (omega (arith, low, c.self.invariant.0.places)) c.index.ensures 0 in
    let same : place_of c.self.inside.lines.items c.args.line ≡ place_of c.self.inside.slots.items c.args.slot =
    ap (λ h. place_of h.order c.args.line) c.self.view_is ∙ c.requires.same
    ∙ ap (λ h. place_of h.slots c.args.slot) (sym c.self.view_is) in
    sym (ap (λ h. place_of h.order c.args.line) (sym c.self.view_is)
    ∙ no_place c.self.inside.lines.items c.self.inside.slots.items c.self.inside.places.items c.self.inside.room
    c.args.line c.args.slot c.index.result.now c.self.invariant.0.held same told
    (elim c.else-place-len.branch [
      | else-place-len-via-then-place-len+else-index-line w ↦ λ below is.
          w.if-index-line.false
          (get_or_read c.self.inside.lines.items c.index.result.now w.index-then-place-len.result.now below
          w.index-then-place-len.ensures 0 ∙ is)
      | else-place-len-via-else-place-len w ↦ λ below is. omega (arith, w.if-place-len.false, c.len.ensures)
    ]))
