-- Instructions without F0 are read exactly.
use Rattle.std.proofs.Common.{◌≡◌, ◌≢◌, ℕ, zero, suc, ◌<◌, ◌⊎◌, inl, inr, Bool, true, false, cond, List, [], ◌∷◌, ◌++◌}
use Rattle.std.proofs.Common.{Err, refl, ap, subst, ◌∙◌, arith}
use Rattle.std.specs.Prelude.{◌&&◌, ◌==◌}
use Rattle.std.proofs.lemmas.Bool.{eqb-true, eqb-false}
use Rattle.ia_insn.specs.declared.fault.DecodeFault.TheVariants.{Short}
use Rattle.ia_word.specs.declared.operation.BareOp.TheVariants as bare
use Rattle.ia_insn.specs.declared.op.Op.{Op}
use Rattle.ia_insn.specs.declared.op.Op.TheVariants as op
use Rattle.ia_insn.specs.Form.{Form, none, nothing, SpellsForm, alone}
use Rattle.ia_insn.specs.Table.{one_byte, alu_row, row_40, row_80, row_A0, row_C0, two_byte, behind_f3, SpellsOp, one}
use Rattle.ia_insn.specs.Table.{two, with_f3}
use Rattle.ia_insn.specs.Reading.{◌>>=◌, Read, byte_at, form_at, op_at}
use Rattle.ia_insn.proofs.Exact.{Then}
use Rattle.ia_insn.proofs.Parts.{IsByte, exact_byte}
use Rattle.ia_insn.proofs.Refusing.{Reads, Reads-same, Reads-if, Reads-then}
use Rattle.ia_insn.proofs.Forms.{live, reads_form}

-- ---- each opcode of the maps begins an instruction, or none

abbrev all_below : ℕ → (ℕ → Bool) → Bool
all_below zero p = true
all_below (suc n) p = p n && all_below n p

all_step : (n : ℕ) (p : ℕ → Bool) (s : Bool) → p n ≡ s → (s && all_below n p) ≡ true
    → (p n ≡ true) × (all_below n p ≡ true)
all_step n p true was e = (was, e)
all_step n p false was e = absurd cc

last_or : (b n : ℕ) → b < suc n → (b ≡ n) ⊎ (b < n)
last_or b n lt = grind arith

all_below-true : (n : ℕ) (p : ℕ → Bool) → all_below n p ≡ true → (b : ℕ) → b < n → p b ≡ true
all_below-true zero p e b lt = absurd (omega arith)
all_below-true (suc n) p e b lt =
    let s = all_step n p (p n) refl e in
    let below = all_below-true n p s.1 b in
    elim (last_or b n lt) [ inl same ↦ rw same s.0 | inr less ↦ below less ]

one_live : all_below 256 (λ b. live (one_byte b)) ≡ true
unfolding one_byte alu_row row_40 row_80 row_A0 row_C0
one_live = refl

two_live : all_below 256 (λ b. live (two_byte b)) ≡ true
unfolding two_byte
two_live = refl

f3_live : all_below 256 (λ b. live (behind_f3 b)) ≡ true
unfolding behind_f3
f3_live = refl

-- ---- behind 0F, behind F3, and the rest

no_byte : (bytes : List ℕ) → byte_at bytes ≡ Err Short → bytes ≡ []
no_byte [] e = refl
no_byte (b ∷ bytes) e = absurd cc

abbrev IsTwo : (ℕ → Form) → List ℕ → Op → Type 0
IsTwo map = Then IsByte (λ c. SpellsForm (map c))

module _ (map : ℕ → Form) (all : all_below 256 (λ b. live (map b)) ≡ true) (c : ℕ) (lt : c < 256) (i : Op)
    (h : SpellsForm (map c) [] i) where
  two_more : (bytes : List ℕ) → byte_at bytes ≡ Err Short → (more : List ℕ) × (i : Op) × IsTwo map (bytes ++ more) i
  two_more bytes e = (
    c ∷ [],
    i,
    rw (no_byte bytes e)
        (record { value = c; front = c ∷ []; back = []; first = (lt, refl); second = h; parts = refl }),
  )

  reads_two : Reads (IsTwo map) (λ bytes. byte_at bytes >>= λ x. form_at (map x.0) x.1)
  reads_two = Reads-then IsByte (λ x. SpellsForm (map x)) byte_at (λ x. form_at (map x)) exact_byte
      (λ s x y. reads_form (map x) (all_below-true 256 (λ b. live (map b)) all x y.0)) two_more

cpuid : SpellsForm (two_byte 0xA2) [] (op.Bare bare.Cpuid)
unfolding two_byte
cpuid = alone nothing

pause : SpellsForm (behind_f3 0x90) [] (op.Bare bare.Pause)
unfolding behind_f3
pause = alone nothing

nop : SpellsForm (one_byte 0x90) [] op.Nop
unfolding one_byte alu_row row_40 row_80 row_A0 row_C0
nop = alone nothing

not_none : {s : List ℕ} {i : Op} → SpellsForm none s i → ⊥
not_none h = elim h [ ]

not_0f : {s : List ℕ} {i : Op} → SpellsForm (one_byte 0x0F) s i → ⊥
unfolding one_byte alu_row row_40 row_80 row_A0 row_C0
not_0f h = not_none h

not_f3 : {s : List ℕ} {i : Op} → SpellsForm (one_byte 0xF3) s i → ⊥
unfolding one_byte alu_row row_40 row_80 row_A0 row_C0
not_f3 h = not_none h

not_f0 : {s : List ℕ} {i : Op} → SpellsForm (one_byte 0xF0) s i → ⊥
unfolding one_byte alu_row row_40 row_80 row_A0 row_C0
not_f0 h = not_none h

from_0f : {b : ℕ} {s : List ℕ} {i : Op} → SpellsOp (b ∷ s) i → b ≡ 0x0F → IsTwo two_byte s i
from_0f {s = s} {i = i} (one lt h) e = absurd (not_0f (subst (λ (z : ℕ). SpellsForm (one_byte z) s i) e h))
from_0f (two {b = c} {bytes = bytes} lt h) e =
    record { value = c; front = c ∷ []; back = bytes; first = (lt, refl); second = h; parts = refl }
from_0f (with_f3 lt h) e = absurd (omega arith)

from_f3 : {b : ℕ} {s : List ℕ} {i : Op} → SpellsOp (b ∷ s) i → b ≡ 0xF3 → IsTwo behind_f3 s i
from_f3 {s = s} {i = i} (one lt h) e = absurd (not_f3 (subst (λ (z : ℕ). SpellsForm (one_byte z) s i) e h))
from_f3 (two lt h) e = absurd (omega arith)
from_f3 (with_f3 {b = c} {bytes = bytes} lt h) e =
    record { value = c; front = c ∷ []; back = bytes; first = (lt, refl); second = h; parts = refl }

from_other : {b : ℕ} {s : List ℕ} {i : Op} → SpellsOp (b ∷ s) i → b ≢ 0x0F → b ≢ 0xF3 → SpellsForm (one_byte b) s i
from_other (one lt h) n m = h
from_other (two lt h) n m = absurd (n refl)
from_other (with_f3 lt h) n m = absurd (m refl)

abbrev Behind : ℕ → List ℕ → Op → Type 0
Behind b s i = SpellsOp (b ∷ s) i

abbrev behind_at : ℕ → List ℕ → Read Op
behind_at b bytes = cond (b == 0x0F) (byte_at bytes >>= λ x. form_at (two_byte x.0) x.1)
    (cond (b == 0xF3) (byte_at bytes >>= λ x. form_at (behind_f3 x.0) x.1) (form_at (one_byte b) bytes))

reads_behind : (b : ℕ) → b < 256 → Reads (Behind b) (behind_at b)
reads_behind b lt = Reads-if (b == 0x0F)
    (λ e. let is : b ≡ 0x0F = eqb-true _ _ e in
    Reads-same
    (λ s i h. rw (is, h.parts, h.first.1) (two h.first.0 h.second))
    (λ s i h. from_0f h is)
    (reads_two two_byte two_live 0xA2 (omega arith) (op.Bare bare.Cpuid) cpuid))
    (λ e. let n : b ≢ 0x0F = eqb-false _ _ e in
    Reads-if (b == 0xF3)
    (λ e. let is : b ≡ 0xF3 = eqb-true _ _ e in
    Reads-same
    (λ s i h. rw (is, h.parts, h.first.1) (with_f3 h.first.0 h.second))
    (λ s i h. from_f3 h is)
    (reads_two behind_f3 f3_live 0x90 (omega arith) (op.Bare bare.Pause) pause))
    (λ e. let m : b ≢ 0xF3 = eqb-false _ _ e in
    Reads-same (λ s i h. one lt h) (λ s i h. from_other h n m)
    (reads_form (one_byte b) (all_below-true 256 (λ b. live (one_byte b)) one_live b lt))))

op_from : {s : List ℕ} {i : Op} → SpellsOp s i → Then IsByte Behind s i
op_from (one {b = b} {bytes = bytes} lt h) =
    record { value = b; front = b ∷ []; back = bytes; first = (lt, refl); second = one lt h; parts = refl }
op_from (two {b = b} {bytes = bytes} lt h) = record {
  value = 0x0F;
  front = 0x0F ∷ [];
  back = b ∷ bytes;
  first = (omega arith, refl);
  second = two lt h;
  parts = refl;
}
op_from (with_f3 {b = b} {bytes = bytes} lt h) = record {
  value = 0xF3;
  front = 0xF3 ∷ [];
  back = b ∷ bytes;
  first = (omega arith, refl);
  second = with_f3 lt h;
  parts = refl;
}

op_to : (s : List ℕ) (i : Op) → Then IsByte Behind s i → SpellsOp s i
op_to s i h =
    let whole : s ≡ h.value ∷ h.back = h.parts ∙ ap (λ (z : List ℕ). z ++ h.back) h.first.1 in
    rw whole h.second

pub op_nop : SpellsOp (0x90 ∷ []) op.Nop
op_nop = one (omega arith) nop

op_more : (bytes : List ℕ) → byte_at bytes ≡ Err Short
    → (more : List ℕ) × (i : Op) × Then IsByte Behind (bytes ++ more) i
op_more bytes e = (0x90 ∷ [], op.Nop, rw (no_byte bytes e) (op_from op_nop))

pub reads_op : Reads SpellsOp op_at
unfolding op_at
reads_op = Reads-same op_to (λ s i h. op_from h)
    (Reads-then IsByte Behind byte_at behind_at exact_byte (λ s b x. reads_behind b x.0) op_more)

-- F0 begins no instruction by itself
pub starts_other : {s : List ℕ} {i : Op} → SpellsOp s i → (b : ℕ) × (t : List ℕ) × (s ≡ b ∷ t) × (b ≢ 0xF0)
starts_other {i = i} (one {b = b} {bytes = bytes} lt h) =
    (b, bytes, refl, λ e. not_f0 (subst (λ (z : ℕ). SpellsForm (one_byte z) bytes i) e h))
starts_other (two {b = b} {bytes = bytes} lt h) = (0x0F, b ∷ bytes, refl, λ e. omega arith)
starts_other (with_f3 {b = b} {bytes = bytes} lt h) = (0xF3, b ∷ bytes, refl, λ e. omega arith)
