use Rattle.std.proofs.Common.{◌≡◌, ◌+◌, ◌*◌, ◌/◌, ◌%◌, ◌^◌, ℕ, List, length, get_or, vec_len, ap, ◌∙◌, arith, rules}
use Rattle.std.proofs.Common.{refl, ◌∷◌, []}
use Rattle.std.proofs.lemmas.List.{get_or_read}
use Rattle.std.proofs.Math.ListN.{set}
use Rattle.std.specs.FinMap as bytes_map
use Rattle.std.specs.Int.RustNames.{bit_or}
use Rattle.ia_word.specs.Operand.{placed_bytes}
use Rattle.tm_buffer.specs.Buffer.{Bytes, with_bytes}
use Rattle.tm_buffer.specs.Slots.{bytes_of}
use Rattle.tm_buffer.proofs.Places.{below_room, place_seen}
use Rattle.tm_buffer.proofs.Runs.{run_written}
use Rattle.tm_buffer.proofs.stored.Buffer.write_run.Goals as goal

pub overflow_mul-start : goal.overflow_mul-start
overflow_mul-start c = omega (
  arith,
  c.self.invariant.3,
  below_room (c.args.address / 64) c.self.view_is c.requires.place c.self.invariant.0.within,
)

pub overflow_add-start : goal.overflow_add-start
overflow_add-start c = omega (
  arith,
  c.self.invariant.3,
  below_room (c.args.address / 64) c.self.view_is c.requires.place c.self.invariant.0.within,
)

pub overflow_add-start-2 : goal.overflow_add-start-2
overflow_add-start-2 c = omega (
  arith,
  c.self.invariant.3,
  below_room (c.args.address / 64) c.self.view_is c.requires.place c.self.invariant.0.within,
)

pub overflow_add-start-3 : goal.overflow_add-start-3
overflow_add-start-3 c = omega (
  arith,
  c.self.invariant.3,
  below_room (c.args.address / 64) c.self.view_is c.requires.place c.self.invariant.0.within,
)

pub overflow_add-start-4 : goal.overflow_add-start-4
overflow_add-start-4 c = omega (
  arith,
  c.self.invariant.3,
  below_room (c.args.address / 64) c.self.view_is c.requires.place c.self.invariant.0.within,
)

pub index-requires : goal.index-requires
index-requires c =
    let n : vec_len c.self.inside.masks ≡ length c.self.inside.masks.items = search rules in
    omega (
      arith,
      c.self.invariant.0.masks,
      below_room (c.args.address / 64) c.self.view_is c.requires.place c.self.invariant.0.within,
    )

pub index_mut-requires : goal.index_mut-requires
index_mut-requires c =
    let n : vec_len c.self.inside.masks ≡ length c.self.inside.masks.items = search rules in
    omega (
      arith,
      c.self.invariant.0.masks,
      below_room (c.args.address / 64) c.self.view_is c.requires.place c.self.invariant.0.within,
    )

pub index_mut-requires-2 : goal.index_mut-requires-2
index_mut-requires-2 c =
    let n : vec_len c.self.inside.bytes ≡ length c.self.inside.bytes.items = search rules in
    omega (
      arith,
      c.requires.one,
      c.self.invariant.0.bytes,
      below_room (c.args.address / 64) c.self.view_is c.requires.place c.self.invariant.0.within,
    )

pub index_mut-requires-3 : goal.index_mut-requires-3
index_mut-requires-3 c =
    let n : vec_len c.self.inside.bytes ≡ length c.self.inside.bytes.items = search rules in
    omega (
      arith,
      c.requires.one,
      c.self.invariant.0.bytes,
      below_room (c.args.address / 64) c.self.view_is c.requires.place c.self.invariant.0.within,
    )

pub index_mut-requires-4 : goal.index_mut-requires-4
index_mut-requires-4 c =
    let n : vec_len c.self.inside.bytes ≡ length c.self.inside.bytes.items = search rules in
    omega (
      arith,
      c.requires.one,
      c.self.invariant.0.bytes,
      below_room (c.args.address / 64) c.self.view_is c.requires.place c.self.invariant.0.within,
    )

pub index_mut-requires-5 : goal.index_mut-requires-5
index_mut-requires-5 c =
    let n : vec_len c.self.inside.bytes ≡ length c.self.inside.bytes.items = search rules in
    omega (
      arith,
      c.requires.one,
      c.self.invariant.0.bytes,
      below_room (c.args.address / 64) c.self.view_is c.requires.place c.self.invariant.0.within,
    )

pub returns-clause-bytes : goal.returns-clause-bytes
returns-clause-bytes c =
    let lines : List ℕ = c.self.inside.lines.items in
    let masks : List ℕ = c.self.inside.masks.items in
    let bytes : List ℕ = c.self.inside.bytes.items in
    let k : ℕ = c.args.place in
    let s : ℕ = c.args.place * 64 + c.args.address % 64 in
    let b0 : ℕ = get_or c.args.bytes 0 0 in
    let b1 : ℕ = get_or c.args.bytes 1 0 in
    let b2 : ℕ = get_or c.args.bytes 2 0 in
    let b3 : ℕ = get_or c.args.bytes 3 0 in
    let p = place_seen (c.args.address / 64) c.self.view_is c.requires.place in
    let below = below_room (c.args.address / 64) c.self.view_is c.requires.place c.self.invariant.0.within in
    let read : c.index.result.now ≡ get_or masks k 0 =
    get_or_read masks k c.index.result.now (omega (arith, c.self.invariant.0.masks)) c.index.ensures 0 in
    ap (λ m. bytes_of lines (set masks k (bit_or m (15 * 2 ^ (c.args.address % 64) % 2 ^ 64)))
    (set (set (set (set bytes (s + 3) b3) (s + 2) b2) (s + 1) b1) s b0)) read
    ∙ run_written lines masks bytes c.args.address k s b0 b1 b2 b3 (omega (arith, c.self.invariant.0.masks)) p
    c.requires.one refl
    (omega (arith, c.self.invariant.0.bytes, c.requires.one))
    ∙ next _ c.args.self.now.bytes b0 b1 b2 b3 c.args.address (ap (λ h. h.bytes) c.self.view_is)
  where
    next : (m n : Bytes) (b0 b1 b2 b3 a : ℕ) → m ≡ n
        → bytes_map.insert (bytes_map.insert (bytes_map.insert (bytes_map.insert m (a + 3) b3) (a + 2) b2) (a + 1) b1) a
        b0
        ≡ with_bytes n (placed_bytes a (b0 ∷ b1 ∷ b2 ∷ b3 ∷ []))
    next m n b0 b1 b2 b3 a e =
        let two : a + 2 ≡ a + 1 + 1 = omega arith in
        let three : a + 3 ≡ a + 1 + 1 + 1 = omega arith in
        λ i. bytes_map.insert
        (bytes_map.insert (bytes_map.insert (bytes_map.insert (e i) (three i) b3) (two i) b2) (a + 1) b1) a b0
