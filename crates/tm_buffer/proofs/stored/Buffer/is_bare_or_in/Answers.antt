use Rattle.std.proofs.Common.{◌≡◌, ◌<◌, ◌∙◌, ap, length, get_or, arith}
use Rattle.std.proofs.lemmas.List.{get_or_read}
use Rattle.std.specs.Option.{is_some}
use Rattle.tm_buffer.specs.Buffer.{place_of}
use Rattle.tm_buffer.proofs.Alike.{bare_answer, held_answer, bare_seen}
use Rattle.tm_buffer.proofs.stored.Buffer.is_bare_or_in.Goals as goal

pub returns-then-index-eq0 : goal.returns-then-index-eq0
returns-then-index-eq0 c =
    let below : c.args.place < length c.self.inside.lines.items =
    omega (arith, ap (λ h. length h.order) c.self.view_is, c.requires) in
    let mask : c.index.result.now ≡ get_or c.self.inside.masks.items c.args.place 0 =
    get_or_read c.self.inside.masks.items c.args.place c.index.result.now
    (omega (arith, c.self.invariant.0.masks, c.self.invariant.0.within, below)) c.index.ensures 0 in
    bare_seen _ c.args.place _ _ _ _ c.self.view_is c.other.view_is
    (bare_answer c.self.inside.lines.items c.self.inside.masks.items c.self.inside.bytes.items
    c.other.inside.lines.items
    (get_or c.self.inside.lines.items c.args.place 0) c.args.place c.index.result.now
    (c.self.invariant.0.at_its_place c.args.place below) mask c.if-index-eq0.true)

pub returns-else-index-eq0 : goal.returns-else-index-eq0
returns-else-index-eq0 c =
    let below : c.args.place < length c.self.inside.lines.items =
    omega (arith, ap (λ h. length h.order) c.self.view_is, c.requires) in
    let mask : c.index.result.now ≡ get_or c.self.inside.masks.items c.args.place 0 =
    get_or_read c.self.inside.masks.items c.args.place c.index.result.now
    (omega (arith, c.self.invariant.0.masks, c.self.invariant.0.within, below)) c.index.ensures 0 in
    let line : c.index-else-index-eq0.result.now ≡ get_or c.self.inside.lines.items c.args.place 0 =
    get_or_read c.self.inside.lines.items c.args.place c.index-else-index-eq0.result.now below
    c.index-else-index-eq0.ensures 0 in
    bare_seen _ c.args.place _ _ _ _ c.self.view_is c.other.view_is
    (held_answer c.is_some.result c.self.inside.lines.items c.self.inside.masks.items c.self.inside.bytes.items
    c.other.inside.lines.items
    (get_or c.self.inside.lines.items c.args.place 0) c.args.place c.index.result.now
    (c.self.invariant.0.at_its_place c.args.place below) mask (omega arith) c.if-index-eq0.false
    (c.is_some.ensures ∙ ap is_some (c.place_in.ensures ∙ (λ i. place_of (c.deref.ensures.value i) (line i)))))
