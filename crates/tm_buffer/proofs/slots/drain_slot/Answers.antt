use Rattle.std.proofs.Common.{◌≡◌, ◌<◌, ◌≤◌, ◌+◌, ◌-◌, ◌*◌, ◌/◌, ◌%◌, ◌++◌, ℕ, List, Bool, true, false, cond, eqb, ◌&&◌}
use Rattle.std.proofs.Common.{length, take, drop, get_or, refl, sym, ap, ◌∙◌, ⊎_elim, arith}
use Rattle.std.proofs.lemmas.Bool.{cases_lt, eq-eqb, ne_eqb}
use Rattle.std.proofs.lemmas.List.{get_or_append_left, get_or-append_right, get_or-take, get_or-drop, length-take-le}
use Rattle.std.proofs.lemmas.Nat.Bits.{bit_at_ones}
use Rattle.std.specs.Int.{bit_at}
use borrow.Rule.Slice.PartMut.{put_mid}
use Rattle.tm_buffer.proofs.slots.drain_slot.Goals as goal

-- a mask of all bits has each
all_set : (mask k : ℕ) → mask ≡ 18446744073709551615 → k < 64 → bit_at mask k ≡ 1
all_set mask k full small = ap (λ m. bit_at m k) full ∙ bit_at_ones 64 k small

-- 64 bytes that take the place of those from an address on
laid_whole : (xs ys : List ℕ) (a line q : ℕ) → a ≡ line * 64 → length ys ≡ 64 → a + 64 ≤ length xs
    → get_or (take a xs ++ (ys ++ drop 64 (drop a xs))) q 0
    ≡ cond (eqb (q / 64) line) (get_or ys (q % 64) 0) (get_or xs q 0)
laid_whole xs ys a line q start size fits =
    let front : length (take a xs) ≡ a = length-take-le a xs (omega arith) in
    ⊎_elim
    (λ (l : q < a).
    get_or_append_left (take a xs) (ys ++ drop 64 (drop a xs)) 0 q (omega (arith, front)) ∙ get_or-take a xs q 0 l
    ∙ sym (ap (λ t. cond t (get_or ys (q % 64) 0) (get_or xs q 0))
    (ne_eqb (q / 64) line (λ (e : q / 64 ≡ line). omega arith))))
    (λ (g : a ≤ q).
    get_or-append_right (take a xs) (ys ++ drop 64 (drop a xs)) a q 0 front g ∙ ⊎_elim
    (λ (l : q - a < 64).
    let at : q - a ≡ q % 64 = omega arith in
    get_or_append_left ys (drop 64 (drop a xs)) 0 (q - a) (omega (arith, size, l)) ∙ ap (λ i. get_or ys i 0) at
    ∙ sym (ap (λ t. cond t (get_or ys (q % 64) 0) (get_or xs q 0))
    (eq-eqb (q / 64) line (let e : q / 64 ≡ line = omega arith in e))))
    (λ (h : 64 ≤ q - a).
    let rest : a + (64 + (q - a - 64)) ≡ q = omega arith in
    get_or-append_right ys (drop 64 (drop a xs)) 64 (q - a) 0 size h
    ∙ get_or-drop 64 (drop a xs) (q - a - 64) 0 ∙ get_or-drop a xs (64 + (q - a - 64)) 0 ∙ ap (λ i. get_or xs i 0) rest
    ∙ sym (ap (λ t. cond t (get_or ys (q % 64) 0) (get_or xs q 0))
    (ne_eqb (q / 64) line (λ (e : q / 64 ≡ line). omega arith))))
    (cases_lt (q - a) 64))
    (cases_lt q a)

pub slice_bounds-copy_from_slice-end : goal.slice_bounds-copy_from_slice-end
slice_bounds-copy_from_slice-end c =
    omega (
      arith,
      c.requires.below 63 (omega arith) (all_set c.args.mask 63 c.if-mask-eq18446744073709551615.true (omega arith)),
    )

and_set : (b t : Bool) → t ≡ true → (b && t) ≡ b
and_set true t e = e
and_set false t e = refl

pub returns-then-mask-eq18446744073709551615 : goal.returns-then-mask-eq18446744073709551615
returns-then-mask-eq18446744073709551615 c = λ q.
    let a : ℕ = c.args.line * 64 in
    let old : List ℕ = c.args.memory.now in
    let below : c.args.line * 64 + 63 < length c.args.memory.now =
    c.requires.below 63 (omega arith) (all_set c.args.mask 63 c.if-mask-eq18446744073709551615.true (omega arith)) in
    let size : c.args.line * 64 + 64 - c.args.line * 64 ≡ 64 = omega arith in
    let bit : eqb (bit_at c.args.mask (q % 64)) 1 ≡ true =
    eq-eqb (bit_at c.args.mask (q % 64)) 1
    (all_set c.args.mask (q % 64) c.if-mask-eq18446744073709551615.true (omega arith)) in
    ap (λ k. get_or (put_mid (c.args.line * 64) k c.args.memory.now c.copy_from_slice.new.self) q 0) size
    ∙ ap (λ ys. get_or (put_mid (c.args.line * 64) 64 c.args.memory.now ys) q 0) c.copy_from_slice.ensures.after
    ∙ laid_whole c.args.memory.now c.args.bytes.now (c.args.line * 64) c.args.line q refl c.requires.bytes
    (omega (arith, below))
    ∙ sym (ap (λ t. cond t (get_or c.args.bytes.now (q % 64) 0) (get_or c.args.memory.now q 0))
    (and_set (eqb (q / 64) c.args.line) (eqb (bit_at c.args.mask (q % 64)) 1) bit))
