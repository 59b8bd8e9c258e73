use Rattle.std.proofs.Common.{◌≡◌, ◌+◌, ◌*◌, ◌/◌, ◌%◌, ℕ, List, length, get_or, vec_len, ap, ◌∙◌, arith, rules}
use Rattle.std.proofs.Math.ListN.{set}
use Rattle.std.proofs.lemmas.List.{get_or_read}
use Rattle.std.specs.FinMap as bytes_map
use Rattle.tm_buffer.specs.Slots.{bytes_of}
use Rattle.tm_buffer.proofs.Places.{below_room, place_seen}
use Rattle.tm_buffer.proofs.Kept.{bytes_written, marked}
use Rattle.tm_buffer.proofs.stored.Buffer.write_at.Goals as goal

pub index-requires : goal.index-requires
index-requires c =
    let n : vec_len c.self.inside.masks ≡ length c.self.inside.masks.items = search rules in
    omega (
      arith,
      below_room (c.args.address / 64) c.self.view_is c.requires c.self.invariant.0.within,
      c.self.invariant.0.masks,
    )

pub index_mut-requires : goal.index_mut-requires
index_mut-requires c =
    let n : vec_len c.self.inside.masks ≡ length c.self.inside.masks.items = search rules in
    omega (
      arith,
      below_room (c.args.address / 64) c.self.view_is c.requires c.self.invariant.0.within,
      c.self.invariant.0.masks,
    )

pub overflow_mul-place : goal.overflow_mul-place
overflow_mul-place c = omega
    (arith, below_room (c.args.address / 64) c.self.view_is c.requires c.self.invariant.0.within, c.self.invariant.3)

pub overflow_add-place : goal.overflow_add-place
overflow_add-place c = omega
    (arith, below_room (c.args.address / 64) c.self.view_is c.requires c.self.invariant.0.within, c.self.invariant.3)

pub index_mut-requires-2 : goal.index_mut-requires-2
index_mut-requires-2 c =
    let n : vec_len c.self.inside.bytes ≡ length c.self.inside.bytes.items = search rules in
    omega (
      arith,
      below_room (c.args.address / 64) c.self.view_is c.requires c.self.invariant.0.within,
      c.self.invariant.0.bytes,
    )

pub returns-clause-bytes : goal.returns-clause-bytes
returns-clause-bytes c =
    let lines : List ℕ = c.self.inside.lines.items in
    let masks : List ℕ = c.self.inside.masks.items in
    let bytes : List ℕ = c.self.inside.bytes.items in
    let k : ℕ = c.args.place in
    let p = place_seen (c.args.address / 64) c.self.view_is c.requires in
    let below = below_room (c.args.address / 64) c.self.view_is c.requires c.self.invariant.0.within in
    let read : c.index.result.now ≡ get_or masks k 0 =
    get_or_read masks k c.index.result.now (omega (arith, c.self.invariant.0.masks)) c.index.ensures 0 in
    ap (λ m. bytes_of lines (set masks k (marked m (c.args.address % 64)))
    (set bytes (k * 64 + c.args.address % 64) c.args.byte)) read
    ∙ bytes_written lines masks bytes c.args.address c.args.byte k p (omega (arith, c.self.invariant.0.masks))
    (omega (arith, c.self.invariant.0.bytes))
    ∙ ap (λ h. bytes_map.insert h.bytes c.args.address c.args.byte) c.self.view_is
