-- Printed numbers go back into their fields.
use Rattle.std.proofs.Common.{◌≡◌, ℕ, ◌+◌, ◌-◌, ◌^◌, ◌<◌, Bool, true, false, cond, [], ◌∷◌, Some, None, refl, sym, ◌∙◌}
use Rattle.std.proofs.Common.{ap, arith, is_some}
use Rattle.std.specs.Prelude.{◌&&◌, ◌||◌, ◌==◌, pos, ◌+ℤ◌, nat_lt, nat_le, option_map}
use Rattle.std.proofs.lemmas.Bool.{lt-ltb, le-leb, ltb-true, eqb-true}
use Rattle.ia_insn.specs.declared.op.Op.{Op}
use Rattle.ia_insn.specs.declared.operand.Mem.{Mem}
use Rattle.ia_insn.specs.Encoding.{fits_short}
use Rattle.ia_insn.specs.Writing.{fits_base, fits_index, fits_mem, is_signed_byte}
use Rattle.ia_item.specs.declared.item.Field.{Field}
use Rattle.ia_item.specs.declared.item.Field.TheVariants as field
use Rattle.ia_item.specs.Fields.{field_of, with_number, with_displacement, with_disp, distance, stored_number}
use Rattle.ia_lex.specs.Terms.{NumberAtom}
use Rattle.ia_text.specs.Arguments.{target}
use Rattle.ia_round_trip.specs.Operands.{part_of, displacement_terms}
use Rattle.ia_round_trip.specs.Resolution.{known_number, by_value, takes, if_taken, field_number, op_with_number}
use Rattle.ia_round_trip.specs.Resolution.{op_with_displacement, by_op}
use Rattle.ia_round_trip.specs.Forms.{expression_of}
use Rattle.ia_round_trip.proofs.MemoryOperands.{two}

both_true : (a b : Bool) → a ≡ true → b ≡ true → (a && b) ≡ true
both_true true b e f = f
both_true false b e f = absurd cc

-- ---- fields

none_added : (n : ℕ) → 0 + n ≡ n
none_added n = omega arith

field_again : (f : Field) (at n v : ℕ) → nat_lt n (2 ^ 64) ≡ true → takes f at (pos n) ≡ true
    → stored_number f at (pos n) ≡ v → field_number f at (part_of n ∷ []) ≡ Some v
field_again f at n v h t s =
    ap (λ b. if_taken f at (by_value (known_number (NumberAtom (cond b (Some n) None))) (λ w. Some (pos 0 +ℤ w)))) h
    ∙ ap (λ k. if_taken f at (Some (pos k))) (none_added n)
    ∙ ap (λ b. cond b (Some (stored_number f at (pos n))) None) t ∙ ap Some s

below_64 : (n : ℕ) → n < 2 ^ 32 → nat_lt n (2 ^ 64) ≡ true
below_64 n h = lt-ltb n (2 ^ 64) (omega arith)

within_long : (n : ℕ) → n < 2 ^ 32 → nat_le n (2 ^ 32 - 1) ≡ true
within_long n h = le-leb n (2 ^ 32 - 1) (omega arith)

pub byte_number : (at n : ℕ) → nat_lt n 256 ≡ true → field_number field.Byte at (part_of n ∷ []) ≡ Some n
byte_number at n e =
    let h = ltb-true n 256 e in
    field_again field.Byte at n n (below_64 n (omega arith)) (le-leb n 255 (omega arith)) refl

pub half_number : (at n : ℕ) → nat_lt n (2 ^ 16) ≡ true → field_number field.Half at (part_of n ∷ []) ≡ Some n
half_number at n e =
    let h = ltb-true n (2 ^ 16) e in
    field_again field.Half at n n (below_64 n (omega arith))
    (both_true (nat_le 0 n) (nat_le n 65535) (le-leb 0 n (omega arith)) (le-leb n 65535 (omega arith))) refl

pub long_number : (at n : ℕ) → nat_lt n (2 ^ 32) ≡ true → field_number field.Long at (part_of n ∷ []) ≡ Some n
long_number at n e =
    let h = ltb-true n (2 ^ 32) e in
    field_again field.Long at n n (below_64 n h) (within_long n h) refl

distance_again : (at long d : ℕ) → d < 2 ^ 32 → distance at long (target at long d) ≡ d
distance_again at long d h = omega arith

target_below : (at long d : ℕ) → target at long d < 2 ^ 32
target_below at long d = omega arith

pub near_number : (at long d : ℕ) → nat_lt d (2 ^ 32) ≡ true
    → field_number (field.Near long) at (part_of (target at long d) ∷ []) ≡ Some d
near_number at long d e =
    let t : ℕ = target at long d in
    field_again (field.Near long) at t d (below_64 t (target_below at long d)) (within_long t (target_below at long d))
    (distance_again at long d (ltb-true d (2 ^ 32) e))

pub short_number : (at long d : ℕ) → fits_short d ≡ true
    → field_number (field.Short long) at (part_of (target at long d) ∷ []) ≡ Some d
short_number at long d e =
    let t : ℕ = target at long d in
    let same : distance at long t ≡ d =
    distance_again at long d (ltb-true d (2 ^ 32) (two (nat_lt d (2 ^ 32)) (is_signed_byte d) e).0) in
    let near : fits_short (distance at long t) ≡ true = ap fits_short same ∙ e in
    field_again (field.Short long) at t d (below_64 t (target_below at long d))
    (both_true (nat_le t (2 ^ 32 - 1)) (fits_short (distance at long t)) (within_long t (target_below at long d)) near)
    (ap (λ b. cond b (distance at long t) 0) near ∙ same)

-- ---- operations

numbered_again : (at : ℕ) (f : ℕ → Op) (n v : ℕ) → with_number (f 0) v ≡ f v
    → field_number (field_of (f 0)) at (part_of n ∷ []) ≡ Some v
    → op_with_number at (Some (part_of n ∷ [])) (f 0) ≡ Some (f v)
numbered_again at f n v w e = ap (option_map (with_number (f 0))) e ∙ ap Some w

-- the operation with its number
pub number_again : (at : ℕ) (f : ℕ → Op) (n v : ℕ) → with_number (f 0) v ≡ f v
    → field_number (field_of (f 0)) at (part_of n ∷ []) ≡ Some v
    → by_op (op_with_number at (Some (part_of n ∷ [])) (f 0)) (op_with_displacement at None) ≡ Some (f v)
number_again at f n v w e = ap (λ o. by_op o (op_with_displacement at None)) (numbered_again at f n v w e)

displaced_pick : (z : Bool) (at : ℕ) (f : Mem → Op) (m : Mem)
    → ((n : Mem) (d : ℕ) → with_displacement (f n) d ≡ f (with_disp n d)) → nat_lt m.disp (2 ^ 32) ≡ true
    → (z ≡ true → m.disp ≡ 0)
    → op_with_displacement at (expression_of (cond z [] (part_of m.disp ∷ []))) (f (with_disp m 0)) ≡ Some (f m)
displaced_pick true at f m w h k = ap (λ d. Some (f (with_disp m d))) (sym (k refl))
displaced_pick false at f m w h k = ap (option_map (with_displacement (f (with_disp m 0)))) (long_number at m.disp h)
    ∙ ap Some (w (with_disp m 0) m.disp)

-- the operation with its displacement
pub place_again : (at : ℕ) (f : Mem → Op) (m : Mem)
    → ((n : Mem) (d : ℕ) → with_displacement (f n) d ≡ f (with_disp n d)) → fits_mem m ≡ true
    → op_with_displacement at (expression_of (displacement_terms m)) (f (with_disp m 0)) ≡ Some (f m)
place_again at f m w h =
    let before : Bool = is_some m.base || is_some m.index in
    displaced_pick (before && (m.disp == 0)) at f m w
    (two (fits_base m.base && fits_index m.index m.scale) (nat_lt m.disp (2 ^ 32)) h).1
    (λ e. eqb-true m.disp 0 (two before (m.disp == 0) e).1)

-- the operation with both
pub both_again : (at : ℕ) (f : Mem → ℕ → Op) (m : Mem) (n v : ℕ)
    → with_number (f (with_disp m 0) 0) v ≡ f (with_disp m 0) v
    → ((n : Mem) (d : ℕ) → with_displacement (f n v) d ≡ f (with_disp n d) v) → fits_mem m ≡ true
    → field_number (field_of (f (with_disp m 0) 0)) at (part_of n ∷ []) ≡ Some v
    → by_op (op_with_number at (Some (part_of n ∷ [])) (f (with_disp m 0) 0))
    (op_with_displacement at (expression_of (displacement_terms m))) ≡ Some (f m v)
both_again at f m n v w p h e =
    ap (λ o. by_op o (op_with_displacement at (expression_of (displacement_terms m))))
    (numbered_again at (f (with_disp m 0)) n v w e)
    ∙ place_again at (λ q. f q v) m p h
