-- No row hides another: the rows of each block rise, do not overlap, and lie within the block.
use Rattle.std.proofs.Common.{◌≡◌, ℕ, zero, suc, ◌+◌, ◌-◌, ◌*◌, ◌/◌, ◌%◌, ◌<◌, ◌≤◌, Bool, true, cond, List, [], ◌∷◌}
use Rattle.std.proofs.Common.{length, refl, ap, ◌∙◌, arith}
use Rattle.std.specs.Prelude.{◌&&◌, nat_le, nat_lt, slice_index_or, All}
use Rattle.std.proofs.lemmas.Bool.{leb-true, le-leb, lt-ltb, le-ltb, and_parts, and_from, and_right}
use Rattle.ia_word.specs.declared.operation.AluOp.{AluOp}
use Rattle.ia_insn.specs.Form.{Form}
use Rattle.ia_insn.specs.Table.{OpcodeRow, look_up, alu_rows, alu_row, rows_40, rows_80, rows_A0, rows_C0, row_40}
use Rattle.ia_insn.specs.Table.{row_80, row_A0, row_C0, one_byte, two_byte_rows, two_byte}
use Rattle.ia_insn.specs.Operations.{alu_number}
use Rattle.ia_insn.specs.Order.{IsReached}
use Rattle.ia_insn.proofs.Numbers.{alu_low, alu_back}

abbrev in_order : ℕ → ℕ → List OpcodeRow → Bool
in_order from end [] = nat_le from end
in_order from end (r ∷ rs) = nat_le from r.first && in_order (r.first + r.many) end rs

order_le : (rs : List OpcodeRow) (from end : ℕ) → in_order from end rs ≡ true → from ≤ end
order_le [] from end e = leb-true _ _ e
order_le (r ∷ rs) from end e =
    let p = and_parts (nat_le from r.first) (in_order (r.first + r.many) end rs) e in
    omega (arith, leb-true from r.first p.0, order_le rs (r.first + r.many) end p.1)

first_row : (r : OpcodeRow) (rs : List OpcodeRow) (j : ℕ) → j < r.many → look_up (r ∷ rs) (r.first + j) ≡ r.form j
first_row r rs j lt =
    let t = and_from (nat_le r.first (r.first + j)) (nat_lt (r.first + j) (r.first + r.many))
    (le-leb r.first (r.first + j) (omega arith)) (lt-ltb (r.first + j) (r.first + r.many) (omega arith)) in
    let m : r.first + j - r.first ≡ j = omega arith in
    ap (λ (z : Bool). cond z (r.form (r.first + j - r.first)) (look_up rs (r.first + j))) t ∙ ap r.form m

later_row : (r : OpcodeRow) (rs : List OpcodeRow) (b : ℕ) → r.first + r.many ≤ b → look_up (r ∷ rs) b ≡ look_up rs b
later_row r rs b le =
    let t = and_right (nat_le r.first b) (nat_lt b (r.first + r.many)) (le-ltb b (r.first + r.many) le) in
    ap (λ (z : Bool). cond z (r.form (b - r.first)) (look_up rs b)) t

record Within (look : ℕ → Form) (from end : ℕ) (r : OpcodeRow) : Type 0 where
  low : from ≤ r.first
  high : r.first + r.many ≤ end
  here : IsReached look r

reached : (rs : List OpcodeRow) (from end : ℕ) → in_order from end rs ≡ true → (k : ℕ) (d : OpcodeRow) → k < length rs
    → Within (look_up rs) from end (slice_index_or rs k d)
reached [] from end e k d lt = absurd (omega arith)
reached (r ∷ rs) from end e zero d lt =
    let p = and_parts (nat_le from r.first) (in_order (r.first + r.many) end rs) e in
    record {
      low = leb-true from r.first p.0;
      high = order_le rs (r.first + r.many) end p.1;
      here = λ j lj. first_row r rs j lj;
    }
reached (r ∷ rs) from end e (suc k) d lt =
    let p = and_parts (nat_le from r.first) (in_order (r.first + r.many) end rs) e in
    let w = reached rs (r.first + r.many) end p.1 k d (omega arith) in
    let x = slice_index_or rs k d in
    record {
      low = omega (arith, leb-true from r.first p.0, w.low);
      high = w.high;
      here = λ j lj. later_row r rs (x.first + j) (omega (arith, w.low)) ∙ w.here j lj;
    }

-- the rows of a block are reached where the map is the block's
in_block : (map : ℕ → Form) (rs : List OpcodeRow) (from end : ℕ) → in_order from end rs ≡ true
    → ((b : ℕ) → from ≤ b → b < end → map b ≡ look_up rs b) → All (IsReached map) rs
in_block map rs from end e same k d lt j lj =
    let w = reached rs from end e k d lt in
    let x = slice_index_or rs k d in
    same (x.first + j) (omega (arith, w.low)) (omega (arith, w.high)) ∙ w.here j lj

-- ---- the blocks

alu_block : (k : AluOp) (b : ℕ) → b < 6 → one_byte (8 * alu_number k + b) ≡ look_up (alu_rows k) b
unfolding one_byte alu_row
alu_block k b lt =
    let t : nat_lt (8 * alu_number k + b) 0x40 ≡ true = lt-ltb (8 * alu_number k + b) 0x40 (omega (arith, alu_low k)) in
    let n : (8 * alu_number k + b) / 8 ≡ alu_number k = omega arith in
    let m : (8 * alu_number k + b) % 8 ≡ b = omega arith in
    rw (t, n, m, alu_back k) refl

block_40 : (b : ℕ) → 0x40 ≤ b → b < 0x80 → one_byte b ≡ look_up rows_40 b
unfolding one_byte row_40
block_40 b low high = rw (le-ltb b 0x40 low, lt-ltb b 0x80 high) refl

block_80 : (b : ℕ) → 0x80 ≤ b → b < 0xA0 → one_byte b ≡ look_up rows_80 b
unfolding one_byte row_80
block_80 b low high = rw (le-ltb b 0x40 (omega arith), le-ltb b 0x80 low, lt-ltb b 0xA0 high) refl

block_A0 : (b : ℕ) → 0xA0 ≤ b → b < 0xC0 → one_byte b ≡ look_up rows_A0 b
unfolding one_byte row_A0
block_A0 b low high =
    rw (le-ltb b 0x40 (omega arith), le-ltb b 0x80 (omega arith), le-ltb b 0xA0 low, lt-ltb b 0xC0 high) refl

block_C0 : (b : ℕ) → 0xC0 ≤ b → b < 0x100 → one_byte b ≡ look_up rows_C0 b
unfolding one_byte row_C0
block_C0 b low high =
    rw (le-ltb b 0x40 (omega arith), le-ltb b 0x80 (omega arith), le-ltb b 0xA0 (omega arith), le-ltb b 0xC0 low) refl

-- ---- the maps

pub alu_reached : (k : AluOp) → All (IsReached (λ b. one_byte (8 * alu_number k + b))) (alu_rows k)
alu_reached k = in_block (λ b. one_byte (8 * alu_number k + b)) (alu_rows k) 0 6 refl (λ b low high. alu_block k b high)

pub reached_40 : All (IsReached one_byte) rows_40
reached_40 = in_block one_byte rows_40 0x40 0x80 refl block_40

pub reached_80 : All (IsReached one_byte) rows_80
reached_80 = in_block one_byte rows_80 0x80 0xA0 refl block_80

pub reached_A0 : All (IsReached one_byte) rows_A0
reached_A0 = in_block one_byte rows_A0 0xA0 0xC0 refl block_A0

pub reached_C0 : All (IsReached one_byte) rows_C0
reached_C0 = in_block one_byte rows_C0 0xC0 0x100 refl block_C0

pub reached_0F : All (IsReached two_byte) two_byte_rows
unfolding two_byte
reached_0F = in_block two_byte two_byte_rows 0 0x100 refl (λ b low high. refl)
