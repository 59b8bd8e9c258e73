-- What is written of an instruction spells it.
use Rattle.std.proofs.Common.{◌≡◌, ℕ, ◌+◌, ◌*◌, ◌%◌, ◌^◌, ◌<◌, Bool, true, false, cond, List, [], ◌∷◌, ◌++◌, refl, sym}
use Rattle.std.proofs.Common.{subst, arith}
use Rattle.std.specs.Prelude.{◌&&◌, ◌==◌, not, nat_lt}
use Rattle.std.proofs.lemmas.Bool.{eqb-true, ltb-true, and_parts}
use Rattle.ia_word.specs.declared.operation.AluOp.{AluOp}
use Rattle.ia_word.specs.declared.operation.AluOp.TheVariants as alu
use Rattle.ia_word.specs.declared.operation.ShiftOp.{ShiftOp}
use Rattle.ia_word.specs.Bytes.{long_bytes}
use Rattle.ia_insn.specs.declared.kinds.Count.{Count}
use Rattle.ia_insn.specs.declared.kinds.Count.TheVariants as count
use Rattle.ia_word.specs.declared.operation.UnaryOp.{UnaryOp}
use Rattle.ia_word.specs.declared.operation.IncDecOp.{IncDecOp}
use Rattle.ia_word.specs.declared.operation.IncDecOp.TheVariants as inc_dec
use Rattle.ia_word.specs.declared.operation.BareOp.{BareOp}
use Rattle.ia_word.specs.declared.operation.BareOp.TheVariants as bare
use Rattle.ia_word.specs.declared.width.Width.{Width}
use Rattle.ia_word.specs.declared.width.Width.TheVariants.{B, D}
use Rattle.ia_insn.specs.declared.op.Op.{Op}
use Rattle.ia_insn.specs.declared.op.Op.TheVariants as op
use Rattle.ia_insn.specs.declared.op.Insn.{Insn}
use Rattle.ia_insn.specs.declared.operand.Operand.{Operand}
use Rattle.ia_insn.specs.declared.operand.Operand.TheVariants.{Reg, Imm, Mem as Memory}
use Rattle.ia_insn.specs.Operands.{head_of, SpellsOperand, register}
use Rattle.ia_insn.specs.Form.{done, ib, ibs, id, Form, plain, SpellsTail, nothing, byte, signed_byte, two_bytes}
use Rattle.ia_insn.specs.Form.{four_bytes, SpellsForm, alone, chosen}
use Rattle.ia_insn.specs.Table.{one_byte, alu_row, row_40, row_80, row_A0, row_C0, two_byte, behind_f3, m_r, r_m}
use Rattle.ia_insn.specs.Table.{alu_of, SpellsOp, one, two, with_f3}
use Rattle.ia_insn.specs.Spelling.{lockable, Spells, unlocked, locked}
use Rattle.ia_insn.specs.Writing.{fits_mem, fits_operand, is_signed_byte, operand_bytes}
use Rattle.ia_insn.proofs.Written.{extended}
use Rattle.ia_insn.specs.Encoding.{width_bit, fits_short, fits_pair, fits_test, fits_count, encodable, by_size}
use Rattle.ia_insn.specs.Encoding.{alu_bytes, mov_bytes, test_bytes, inc_dec_bytes, shift_bytes, push_bytes, pop_bytes}
use Rattle.ia_insn.specs.Encoding.{op_bytes, is_encodable, insn_bytes_with}
use Rattle.ia_insn.specs.Operations.{alu_number, shift_number, bit_number, unary_number, inc_dec_number, bare_bytes}
use Rattle.ia_insn.proofs.Numbers.{alu_low, alu_back, width_low, unary_low, unary_same, shift_low, shift_same, bit_low}
use Rattle.ia_insn.proofs.Numbers.{bit_same, inc_dec_low, fe_same, ff_same, exchange_low, exchange_form, extend_low}
use Rattle.ia_insn.proofs.Numbers.{extend_form, loop_low, loop_form, condition_low, jcc_form, jcc_short_form, set_form}
use Rattle.ia_insn.proofs.Numbers.{cmov_form}
use Rattle.ia_insn.proofs.Templates.{form_m, form_m0, form_g, form_g0, form_p, below8}

-- ---- immediates

short_tail : {f : ℕ → Op} (n : ℕ) → n < 2 ^ 32 → is_signed_byte n ≡ true → SpellsTail (ibs f) (n % 256 ∷ []) (f n)
short_tail {f} n lt e =
    subst (λ (z : ℕ). SpellsTail (ibs f) (n % 256 ∷ []) (f z)) (extended n lt e) (signed_byte (omega arith))

short_spelt : {f : ℕ → Op} (n : ℕ) → fits_short n ≡ true → SpellsTail (ibs f) (n % 256 ∷ []) (f n)
short_spelt {f} n e =
    let p = and_parts (nat_lt n (2 ^ 32)) (is_signed_byte n) e in short_tail {f = f} n (ltb-true _ _ p.0) p.1

sized : (P : List ℕ → Type 0) (wide : Bool) (n : ℕ) (short other : List ℕ)
    → (is_signed_byte n ≡ true → P (short ++ n % 256 ∷ [])) → P (other ++ long_bytes n) → P (by_size wide n short other)
sized P wide n short other x y = go (not wide && is_signed_byte n) refl
  where
    go : (t : Bool) → (not wide && is_signed_byte n) ≡ t → P (cond t (short ++ n % 256 ∷ []) (other ++ long_bytes n))
    go true e = x (and_parts (not wide) (is_signed_byte n) e).1
    go false e = y

-- ---- two operands

alu_m_r : (w : Width) (k : AluOp) → one_byte (8 * alu_number k + width_bit w) ≡ m_r (λ m r. op.Alu k w m (Reg r))
unfolding one_byte alu_row
alu_m_r B alu.Add = refl
alu_m_r B _ = refl
alu_m_r D alu.Add = refl
alu_m_r D _ = refl

alu_r_m : (w : Width) (k : AluOp) → one_byte (8 * alu_number k + 2 + width_bit w) ≡ r_m (λ r m. op.Alu k w (Reg r) m)
unfolding one_byte alu_row
alu_r_m B alu.Add = refl
alu_r_m B _ = refl
alu_r_m D alu.Add = refl
alu_r_m D _ = refl

alu_spelt : (number place : Bool) (k : AluOp) (w : Width) (t s : Operand) → fits_pair w t s ≡ true
    → SpellsOp (alu_bytes number place k w t s) (op.Alu k w t s)
unfolding alu_bytes one_byte row_80
alu_spelt number place k w t (Reg s) e =
    let p = and_parts (fits_operand t) (nat_lt s 8) e in
    one (omega (arith, alu_low k, width_low w))
    (subst (λ (z : Form). SpellsForm z (operand_bytes place s t) (op.Alu k w t (Reg s))) (sym (alu_m_r w k))
    (form_m0 place s t (ltb-true _ _ p.1) p.0 nothing))
alu_spelt number place k w (Reg d) (Memory m) e =
    let p = and_parts (nat_lt d 8) (fits_mem m) e in
    one (omega (arith, alu_low k, width_low w))
    (subst (λ (z : Form). SpellsForm z (operand_bytes place d (Memory m)) (op.Alu k w (Reg d) (Memory m)))
    (sym (alu_r_m w k)) (form_m0 place d (Memory m) (ltb-true _ _ p.0) p.1 nothing))
alu_spelt number place k w (Memory n) (Memory m) e = absurd cc
alu_spelt number place k w (Imm n) (Memory m) e = absurd cc
alu_spelt number place k B t (Imm n) e =
    let p = and_parts (fits_operand t) (nat_lt n 256) e in
    one (omega arith) (form_m place (alu_number k) t (alu_low k) p.0 (subst (λ (z : AluOp).
    SpellsTail (ib (λ i. op.Alu (alu_of (alu_number k)) B t (Imm i))) (n ∷ []) (op.Alu z B t (Imm n)))
    (alu_back k) (byte (ltb-true _ _ p.1))))
alu_spelt number place k D t (Imm n) e =
    let p = and_parts (fits_operand t) (nat_lt n (2 ^ 32)) e in
    let lt : n < 2 ^ 32 = ltb-true _ _ p.1 in
    sized (λ s. SpellsOp s (op.Alu k D t (Imm n))) number n (0x83 ∷ operand_bytes place (alu_number k) t)
    (0x81 ∷ operand_bytes place (alu_number k) t)
    (λ q. one (omega arith) (form_m place (alu_number k) t (alu_low k) p.0 (subst (λ (z : AluOp).
    SpellsTail (ibs (λ i. op.Alu (alu_of (alu_number k)) D t (Imm i))) (n % 256 ∷ []) (op.Alu z D t (Imm n)))
    (alu_back k) (short_tail {f = λ i. op.Alu (alu_of (alu_number k)) D t (Imm i)} n lt q))))
    (one (omega arith) (form_m place (alu_number k) t (alu_low k) p.0 (subst (λ (z : AluOp).
    SpellsTail (id (λ i. op.Alu (alu_of (alu_number k)) D t (Imm i))) (long_bytes n) (op.Alu z D t (Imm n)))
    (alu_back k) (four_bytes lt))))

mov_m_r : (w : Width) → one_byte (0x88 + width_bit w) ≡ m_r (λ m r. op.Mov w m (Reg r))
unfolding one_byte row_80
mov_m_r B = refl
mov_m_r D = refl

mov_r_m : (w : Width) → one_byte (0x8A + width_bit w) ≡ r_m (λ r m. op.Mov w (Reg r) m)
unfolding one_byte row_80
mov_r_m B = refl
mov_r_m D = refl

b0 : (r : ℕ) → r < 8 → one_byte (0xB0 + r) ≡ plain (ib (λ n. op.Mov B (Reg r) (Imm n)))
unfolding one_byte row_A0
b0 r lt = below8 (λ r. one_byte (0xB0 + r) ≡ plain (ib (λ n. op.Mov B (Reg r) (Imm n))))
    (refl, refl, refl, refl, refl, refl, refl, refl) r lt

b8 : (r : ℕ) → r < 8 → one_byte (0xB8 + r) ≡ plain (id (λ n. op.Mov D (Reg r) (Imm n)))
unfolding one_byte row_A0
b8 r lt = below8 (λ r. one_byte (0xB8 + r) ≡ plain (id (λ n. op.Mov D (Reg r) (Imm n))))
    (refl, refl, refl, refl, refl, refl, refl, refl) r lt

abbrev at_form : List ℕ → Op → Form → Type 0
at_form s i f = SpellsForm f s i

mov_spelt : (place : Bool) (w : Width) (t s : Operand) → fits_pair w t s ≡ true
    → SpellsOp (mov_bytes place w t s) (op.Mov w t s)
unfolding mov_bytes one_byte row_C0
mov_spelt place w t (Reg s) e =
    let p = and_parts (fits_operand t) (nat_lt s 8) e in
    one (omega (arith, width_low w))
    (subst (at_form (operand_bytes place s t) (op.Mov w t (Reg s))) (sym (mov_m_r w))
    (form_m0 place s t (ltb-true _ _ p.1) p.0 nothing))
mov_spelt place w (Reg d) (Memory m) e =
    let p = and_parts (nat_lt d 8) (fits_mem m) e in
    one (omega (arith, width_low w))
    (subst (at_form (operand_bytes place d (Memory m)) (op.Mov w (Reg d) (Memory m))) (sym (mov_r_m w))
    (form_m0 place d (Memory m) (ltb-true _ _ p.0) p.1 nothing))
mov_spelt place w (Memory n) (Memory m) e = absurd cc
mov_spelt place w (Imm n) (Memory m) e = absurd cc
mov_spelt place B (Reg d) (Imm n) e =
    let p = and_parts (nat_lt d 8) (nat_lt n 256) e in
    let lt : d < 8 = ltb-true _ _ p.0 in
    one (omega arith)
    (subst (at_form (n ∷ []) (op.Mov B (Reg d) (Imm n))) (sym (b0 d lt))
    (alone (byte {f = λ n. op.Mov B (Reg d) (Imm n)} (ltb-true _ _ p.1))))
mov_spelt place D (Reg d) (Imm n) e =
    let p = and_parts (nat_lt d 8) (nat_lt n (2 ^ 32)) e in
    let lt : d < 8 = ltb-true _ _ p.0 in
    one (omega arith)
    (subst (at_form (long_bytes n) (op.Mov D (Reg d) (Imm n))) (sym (b8 d lt))
    (alone (four_bytes {f = λ n. op.Mov D (Reg d) (Imm n)} (ltb-true _ _ p.1))))
mov_spelt place B (Memory m) (Imm n) e =
    let p = and_parts (fits_mem m) (nat_lt n 256) e in
    one (omega arith)
    (form_g place 0 (Memory m) (λ m. ib (λ i. op.Mov B m (Imm i))) (λ h z. rw z refl) (omega arith) p.0
    (byte {f = λ i. op.Mov B (Memory m) (Imm i)} (ltb-true _ _ p.1)))
mov_spelt place D (Memory m) (Imm n) e =
    let p = and_parts (fits_mem m) (nat_lt n (2 ^ 32)) e in
    one (omega arith)
    (form_g place 0 (Memory m) (λ m. id (λ i. op.Mov D m (Imm i))) (λ h z. rw z refl) (omega arith) p.0
    (four_bytes {f = λ i. op.Mov D (Memory m) (Imm i)} (ltb-true _ _ p.1)))
mov_spelt place w (Imm i) (Imm n) e = absurd cc

xchg_m_r : (w : Width) → one_byte (0x86 + width_bit w) ≡ m_r (λ m r. op.Xchg w m r)
unfolding one_byte row_80
xchg_m_r B = refl
xchg_m_r D = refl

-- ---- one operand

inc_dec_r : (k : IncDecOp) (r : ℕ) → r < 8
    → one_byte (0x40 + 8 * inc_dec_number k + r) ≡ plain (done (op.IncDec k D (Reg r)))
unfolding one_byte row_40
inc_dec_r inc_dec.Inc r lt = below8 (λ r. one_byte (0x40 + r) ≡ plain (done (op.IncDec inc_dec.Inc D (Reg r))))
    (refl, refl, refl, refl, refl, refl, refl, refl) r lt
inc_dec_r inc_dec.Dec r lt = below8 (λ r. one_byte (0x48 + r) ≡ plain (done (op.IncDec inc_dec.Dec D (Reg r))))
    (refl, refl, refl, refl, refl, refl, refl, refl) r lt

push_r : (r : ℕ) → r < 8 → one_byte (0x50 + r) ≡ plain (done (op.Push (Reg r)))
unfolding one_byte row_40
push_r r lt = below8 (λ r. one_byte (0x50 + r) ≡ plain (done (op.Push (Reg r))))
    (refl, refl, refl, refl, refl, refl, refl, refl) r lt

pop_r : (r : ℕ) → r < 8 → one_byte (0x58 + r) ≡ plain (done (op.Pop (Reg r)))
unfolding one_byte row_40
pop_r r lt = below8 (λ r. one_byte (0x58 + r) ≡ plain (done (op.Pop (Reg r))))
    (refl, refl, refl, refl, refl, refl, refl, refl) r lt

plain_r : (b : ℕ) (i : Op) → b < 256 → one_byte b ≡ plain (done i) → SpellsOp (b ∷ []) i
plain_r b i lt e = one lt (subst (at_form [] i) (sym e) (alone nothing))

inc_dec_spelt : (place : Bool) (k : IncDecOp) (w : Width) (m : Operand) → fits_operand m ≡ true
    → SpellsOp (inc_dec_bytes place k w m) (op.IncDec k w m)
unfolding inc_dec_bytes one_byte row_C0
inc_dec_spelt place k D (Reg r) e =
    let lt : r < 8 = ltb-true _ _ e in
    plain_r (0x40 + 8 * inc_dec_number k + r) (op.IncDec k D (Reg r)) (omega (arith, inc_dec_low k)) (inc_dec_r k r lt)
inc_dec_spelt place k D (Memory m) e = one (omega arith)
    (form_g0 place (inc_dec_number k) (Memory m) (λ m. done (op.IncDec k D m)) (λ h z. rw z (ff_same k))
    (omega (arith, inc_dec_low k)) e nothing)
inc_dec_spelt place k D (Imm n) e = absurd cc
inc_dec_spelt place k B m e = one (omega arith)
    (form_g0 place (inc_dec_number k) m (λ m. done (op.IncDec k B m)) (λ h z. rw (z, fe_same k) refl)
    (omega (arith, inc_dec_low k)) e nothing)

push_spelt : (number place : Bool) (m : Operand) → encodable (op.Push m) ≡ true
    → SpellsOp (push_bytes number place m) (op.Push m)
unfolding push_bytes one_byte row_C0 row_40
push_spelt number place (Reg r) e =
    let lt : r < 8 = ltb-true _ _ e in plain_r (0x50 + r) (op.Push (Reg r)) (omega arith) (push_r r lt)
push_spelt number place (Memory m) e =
    one (omega arith) (form_g0 place 6 (Memory m) (λ m. done (op.Push m)) (λ h z. rw z refl) (omega arith) e nothing)
push_spelt number place (Imm n) e =
    let lt : n < 2 ^ 32 = ltb-true _ _ e in
    sized (λ s. SpellsOp s (op.Push (Imm n))) number n (0x6A ∷ []) (0x68 ∷ [])
    (λ q. one (omega arith) (alone (short_tail {f = λ n. op.Push (Imm n)} n lt q)))
    (one (omega arith) (alone (four_bytes {f = λ n. op.Push (Imm n)} lt)))

pop_spelt : (place : Bool) (m : Operand) → fits_operand m ≡ true → SpellsOp (pop_bytes place m) (op.Pop m)
unfolding pop_bytes one_byte row_80
pop_spelt place (Reg r) e =
    let lt : r < 8 = ltb-true _ _ e in plain_r (0x58 + r) (op.Pop (Reg r)) (omega arith) (pop_r r lt)
pop_spelt place (Memory m) e =
    one (omega arith) (form_g0 place 0 (Memory m) (λ m. done (op.Pop m)) (λ h z. rw z refl) (omega arith) e nothing)
pop_spelt place (Imm n) e = absurd cc

unary_spelt : (place : Bool) (k : UnaryOp) (m : Operand) → fits_operand m ≡ true
    → SpellsOp (0xF7 ∷ operand_bytes place (unary_number k) m) (op.Unary k m)
unfolding one_byte row_C0
unary_spelt place k m e = one (omega arith)
    (form_g0 place (unary_number k) m (λ m. done (op.Unary k m)) (λ h z. rw z (unary_same k)) (unary_low k) e nothing)

shift_spelt : (number place : Bool) (k : ShiftOp) (m : Operand) (c : Count) → fits_operand m ≡ true
    → fits_count c ≡ true → SpellsOp (shift_bytes number place k m c) (op.Shift k m c)
unfolding shift_bytes one_byte row_C0
shift_spelt number place k m count.Cl e f = one (omega arith)
    (form_g0 place (shift_number k) m (λ m. done (op.Shift k m count.Cl)) (λ h z. rw (z, shift_same k) refl)
    (shift_low k) e nothing)
shift_spelt number place k m (count.Imm n) e f = go (not number && n == 1) refl
  where
    go : (t : Bool) → (not number && n == 1) ≡ t → SpellsOp (cond t (0xD1 ∷ operand_bytes place (shift_number k) m)
        (0xC1 ∷ (operand_bytes place (shift_number k) m ++ n ∷ []))) (op.Shift k m (count.Imm n))
    go true q = subst (λ (z : ℕ). SpellsOp (0xD1 ∷ operand_bytes place (shift_number k) m) (op.Shift k m (count.Imm z)))
        (sym (eqb-true n 1 (and_parts (not number) (n == 1) q).1)) (one (omega arith) (form_g0 place (shift_number k) m
        (λ m. done (op.Shift k m (count.Imm 1))) (λ h z. rw (z, shift_same k) refl) (shift_low k) e nothing))
    go false q = one (omega arith)
        (form_g place (shift_number k) m (λ m. ib (λ i. op.Shift k m (count.Imm i))) (λ h z. rw (z, shift_same k) refl)
        (shift_low k) e (byte {f = λ i. op.Shift k m (count.Imm i)} (ltb-true _ _ f)))

test_m_r : (w : Width) → one_byte (0x84 + width_bit w) ≡ m_r (λ m r. op.Test w m (Reg r))
unfolding one_byte row_80
test_m_r B = refl
test_m_r D = refl

test_spelt : (place : Bool) (w : Width) (t s : Operand) → fits_test w t s ≡ true
    → SpellsOp (test_bytes place w t s) (op.Test w t s)
unfolding test_bytes one_byte row_C0
test_spelt place w t (Reg s) e =
    let p = and_parts (fits_operand t) (nat_lt s 8) e in
    one (omega (arith, width_low w))
    (subst (at_form (operand_bytes place s t) (op.Test w t (Reg s))) (sym (test_m_r w))
    (form_m0 place s t (ltb-true _ _ p.1) p.0 nothing))
test_spelt place w t (Memory m) e = absurd cc
test_spelt place B t (Imm n) e =
    let p = and_parts (fits_operand t) (nat_lt n 256) e in
    one (omega arith)
    (form_g place 0 t (λ m. ib (λ i. op.Test B m (Imm i))) (λ h z. rw z refl) (omega arith) p.0
    (byte {f = λ i. op.Test B t (Imm i)} (ltb-true _ _ p.1)))
test_spelt place D t (Imm n) e =
    let p = and_parts (fits_operand t) (nat_lt n (2 ^ 32)) e in
    one (omega arith)
    (form_g place 0 t (λ m. id (λ i. op.Test D m (Imm i))) (λ h z. rw z refl) (omega arith) p.0
    (four_bytes {f = λ i. op.Test D t (Imm i)} (ltb-true _ _ p.1)))

-- ---- each instruction

reg_operand : (b : ℕ) → (head_of b).mode ≡ 3 → SpellsOperand (head_of b) [] (Reg (head_of b).rm)
reg_operand b e = register e

bare_spelt : (k : BareOp) → SpellsOp (bare_bytes k) (op.Bare k)
unfolding bare_bytes one_byte row_80 row_C0 two_byte behind_f3
bare_spelt bare.Leave = one (omega arith) (alone nothing)
bare_spelt bare.Cdq = one (omega arith) (alone nothing)
bare_spelt bare.Cwde = one (omega arith) (alone nothing)
bare_spelt bare.Clc = one (omega arith) (alone nothing)
bare_spelt bare.Stc = one (omega arith) (alone nothing)
bare_spelt bare.Cmc = one (omega arith) (alone nothing)
bare_spelt bare.Pause = with_f3 (omega arith) (alone nothing)
bare_spelt bare.Hlt = one (omega arith) (alone nothing)
bare_spelt bare.Int3 = one (omega arith) (alone nothing)
bare_spelt bare.Ud2 = two (omega arith) (alone nothing)
bare_spelt bare.Cpuid = two (omega arith) (alone nothing)
bare_spelt bare.Lfence =
    two (omega arith) (chosen {f = λ m. done (op.Bare bare.Lfence)} (omega arith) refl (reg_operand 0xE8 refl) nothing)
bare_spelt bare.Mfence =
    two (omega arith) (chosen {f = λ m. done (op.Bare bare.Mfence)} (omega arith) refl (reg_operand 0xF0 refl) nothing)
bare_spelt bare.Sfence =
    two (omega arith) (chosen {f = λ m. done (op.Bare bare.Sfence)} (omega arith) refl (reg_operand 0xF8 refl) nothing)
bare_spelt bare.Xend =
    two (omega arith) (chosen {f = λ m. done (op.Bare bare.Xend)} (omega arith) refl (reg_operand 0xD5 refl) nothing)
bare_spelt bare.Xtest =
    two (omega arith) (chosen {f = λ m. done (op.Bare bare.Xtest)} (omega arith) refl (reg_operand 0xD6 refl) nothing)

pub op_spelt : (number place : Bool) (i : Op) → encodable i ≡ true → SpellsOp (op_bytes number place i) i
unfolding op_bytes one_byte row_40 row_80 row_C0 two_byte
op_spelt number place (op.Alu k w t s) e = alu_spelt number place k w t s e
op_spelt number place (op.Mov w t s) e = mov_spelt place w t s e
op_spelt number place (op.Lea r m) e =
    let p = and_parts (nat_lt r 8) (fits_mem m) e in one (omega arith) (form_p place r m (ltb-true _ _ p.0) p.1)
op_spelt number place (op.Xchg w m r) e =
    let p = and_parts (fits_operand m) (nat_lt r 8) e in
    one (omega (arith, width_low w))
    (subst (at_form (operand_bytes place r m) (op.Xchg w m r)) (sym (xchg_m_r w))
    (form_m0 place r m (ltb-true _ _ p.1) p.0 nothing))
op_spelt number place (op.IncDec k w m) e = inc_dec_spelt place k w m e
op_spelt number place (op.Test w t s) e = test_spelt place w t s e
op_spelt number place (op.Unary k m) e = unary_spelt place k m e
op_spelt number place (op.Imul r m) e = let p = and_parts (nat_lt r 8) (fits_operand m) e in
    two (omega arith) (form_m0 place r m (ltb-true _ _ p.0) p.1 nothing)
op_spelt number place (op.ImulImm r m n) e =
    let p = and_parts (nat_lt r 8 && fits_operand m) (nat_lt n (2 ^ 32)) e in
    let q = and_parts (nat_lt r 8) (fits_operand m) p.0 in
    let lt : n < 2 ^ 32 = ltb-true _ _ p.1 in
    sized (λ s. SpellsOp s (op.ImulImm r m n)) number n (0x6B ∷ operand_bytes place r m)
    (0x69 ∷ operand_bytes place r m)
    (λ z. one (omega arith) (form_m place r m (ltb-true _ _ q.0) q.1 (short_tail {f = λ n. op.ImulImm r m n} n lt z)))
    (one (omega arith) (form_m place r m (ltb-true _ _ q.0) q.1 (four_bytes {f = λ n. op.ImulImm r m n} lt)))
op_spelt number place (op.Shift k m c) e =
    let p = and_parts (fits_operand m) (fits_count c) e in shift_spelt number place k m c p.0 p.1
op_spelt number place (op.Push m) e = push_spelt number place m e
op_spelt number place (op.Pop m) e = pop_spelt place m e
op_spelt number place (op.Call d) e = one (omega arith) (alone (four_bytes {f = λ n. op.Call n} (ltb-true _ _ e)))
op_spelt number place (op.CallTo m) e =
    one (omega arith) (form_g0 place 2 m (λ m. done (op.CallTo m)) (λ h z. rw z refl) (omega arith) e nothing)
op_spelt number place op.Ret e = one (omega arith) (alone nothing)
op_spelt number place (op.RetPop n) e = one (omega arith) (alone (two_bytes {f = λ n. op.RetPop n} (ltb-true _ _ e)))
op_spelt number place (op.Jmp d) e = one (omega arith) (alone (four_bytes {f = λ n. op.Jmp n} (ltb-true _ _ e)))
op_spelt number place (op.JmpShort d) e = one (omega arith) (alone (short_spelt {f = λ n. op.JmpShort n} d e))
op_spelt number place (op.JmpTo m) e =
    one (omega arith) (form_g0 place 4 m (λ m. done (op.JmpTo m)) (λ h z. rw z refl) (omega arith) e nothing)
op_spelt number place (op.Jcc c d) e =
    two (omega (arith, condition_low c))
    (subst (at_form (long_bytes d) (op.Jcc c d)) (sym (jcc_form c))
    (alone (four_bytes {f = λ n. op.Jcc c n} (ltb-true _ _ e))))
op_spelt number place (op.JccShort c d) e =
    one (omega (arith, condition_low c))
    (subst (at_form (d % 256 ∷ []) (op.JccShort c d)) (sym (jcc_short_form c))
    (alone (short_spelt {f = λ n. op.JccShort c n} d e)))
op_spelt number place (op.Setcc c m) e =
    two (omega (arith, condition_low c))
    (subst (at_form (operand_bytes place 0 m) (op.Setcc c m)) (sym (set_form c))
    (form_g0 place 0 m (λ m. done (op.Setcc c m)) (λ h z. rw z refl) (omega arith) e nothing))
op_spelt number place (op.Cmovcc c r m) e =
    let q = and_parts (nat_lt r 8) (fits_operand m) e in
    two (omega (arith, condition_low c))
    (subst (at_form (operand_bytes place r m) (op.Cmovcc c r m)) (sym (cmov_form c))
    (form_m0 place r m (ltb-true _ _ q.0) q.1 nothing))
op_spelt number place (op.LoopJump k d) e =
    one (loop_low k)
    (subst (at_form (d % 256 ∷ []) (op.LoopJump k d)) (sym (loop_form k))
    (alone (short_spelt {f = λ n. op.LoopJump k n} d e)))
op_spelt number place (op.Extend k r m) e =
    let p = and_parts (nat_lt r 8) (fits_operand m) e in
    two (extend_low k)
    (subst (at_form (operand_bytes place r m) (op.Extend k r m)) (sym (extend_form k))
    (form_m0 place r m (ltb-true _ _ p.0) p.1 nothing))
op_spelt number place (op.Exchange k m r) e =
    let p = and_parts (fits_operand m) (nat_lt r 8) e in
    two (exchange_low k)
    (subst (at_form (operand_bytes place r m) (op.Exchange k m r)) (sym (exchange_form k))
    (form_m0 place r m (ltb-true _ _ p.1) p.0 nothing))
op_spelt number place (op.Bit k m n) e =
    let p = and_parts (fits_operand m) (nat_lt n 256) e in
    two (omega arith)
    (form_g place (bit_number k) m (λ m. ib (λ i. op.Bit k m i)) (λ h z. rw (z, bit_same k) refl) (bit_low k) p.0
    (byte {f = λ i. op.Bit k m i} (ltb-true _ _ p.1)))
op_spelt number place op.Nop e = one (omega arith) (alone nothing)
op_spelt number place (op.NopOf m) e =
    two (omega arith) (form_g0 place 0 m (λ m. done (op.NopOf m)) (λ h z. rw z refl) (omega arith) e nothing)
op_spelt number place (op.Bare k) e = bare_spelt k
op_spelt number place (op.Xbegin d) e = one (omega arith)
    (chosen {f = λ m. id (λ i. op.Xbegin i)} (omega arith) refl (reg_operand 0xF8 refl)
    (four_bytes {f = λ i. op.Xbegin i} (ltb-true _ _ e)))
op_spelt number place (op.Xabort n) e = one (omega arith)
    (chosen {f = λ m. ib (λ i. op.Xabort i)} (omega arith) refl (reg_operand 0xF8 refl)
    (byte {f = λ i. op.Xabort i} (ltb-true _ _ e)))

pub insn_spelt : (number place : Bool) (i : Insn) → is_encodable i ≡ true → Spells (insn_bytes_with number place i) i
insn_spelt number place i e = go i.lock i.op e
  where
    go : (l : Bool) (o : Op) → is_encodable (record { lock = l; op = o }) ≡ true
        → Spells (insn_bytes_with number place (record { lock = l; op = o })) (record { lock = l; op = o })
    go true o e = let p = and_parts (encodable o) (lockable o) e in locked (op_spelt number place o p.0) p.1
    go false o e = let p = and_parts (encodable o) true e in unlocked (op_spelt number place o p.0)
