-- Displacements, places in memory and operands are read exactly.
use Rattle.std.proofs.Common.{◌≡◌, ◌≢◌, ℕ, zero, suc, ◌%◌, ◌^◌, ◌<◌, Bool, true, false, List, [], ◌∷◌, Option, Some}
use Rattle.std.proofs.Common.{None, refl, arith}
use Rattle.std.specs.Prelude.{◌&&◌, ◌==◌}
use Rattle.std.specs.Int.{w32}
use Rattle.std.proofs.lemmas.Bool.{eqb-true, eqb-false, and_parts}
use Rattle.ia_word.specs.Bytes.{sign_extended}
use Rattle.ia_insn.specs.declared.operand.Mem.{Mem}
use Rattle.ia_insn.specs.declared.operand.Operand.{Operand}
use Rattle.ia_insn.specs.declared.operand.Operand.TheVariants.{Reg, Mem as Memory}
use Rattle.ia_insn.specs.Operands.{Head, index_of, scale_of, SpellsDisp, no_disp, disp8, disp32, SpellsBase, no_base}
use Rattle.ia_insn.specs.Operands.{base, SpellsMem, plain, sib, SpellsOperand, register, memory}
use Rattle.ia_insn.specs.Reading.{◌>>=◌, byte_at, long_at, signed_at, disp_at, base_at, mem_at, operand_at}
use Rattle.ia_insn.proofs.Exact.{Exact, Exact-same, Then, Exact-then, Made, Exact-made, Exact-nothing, Exact-if, given}
use Rattle.ia_insn.proofs.Parts.{IsByte, exact_byte, IsNumber, exact_long}

pub exact_signed : Exact (Made IsByte sign_extended) signed_at
unfolding signed_at
exact_signed = Exact-made IsByte sign_extended byte_at exact_byte

-- ---- displacements

disp0_from : {s : List ℕ} {d : ℕ} → SpellsDisp 0 s d → (s ≡ []) × (d ≡ 0)
disp0_from no_disp = (refl, refl)

disp1_from : {s : List ℕ} {d : ℕ} → SpellsDisp 1 s d → Made IsByte sign_extended s d
disp1_from (disp8 {b} h) = record { value = b; spelt = (h, refl); is = refl }

disp2_from : {s : List ℕ} {d : ℕ} → SpellsDisp 2 s d → IsNumber w32 (2 ^ 32) s d
disp2_from (disp32 h) = (h, refl)

pub exact_disp : (mode : ℕ) → mode < 3 → Exact (SpellsDisp mode) (disp_at mode)
unfolding disp_at
exact_disp zero lt = Exact-same (λ s d h. rw (h.0, h.1) no_disp) (λ s d h. disp0_from h) (Exact-nothing 0)
exact_disp (suc zero) lt =
    Exact-same (λ s d h. rw (h.spelt.1, h.is) (disp8 h.spelt.0)) (λ s d h. disp1_from h) exact_signed
exact_disp (suc (suc zero)) lt = Exact-same (λ s d h. rw h.1 (disp32 h.0)) (λ s d h. disp2_from h) exact_long
exact_disp (suc (suc (suc n))) lt = absurd (omega arith)

-- ---- a base

abbrev IsBase : ℕ → ℕ → List ℕ → Option ℕ × ℕ → Type 0
IsBase mode r s p = SpellsBase mode r s p.0 p.1

none_from : {mode r : ℕ} {s : List ℕ} {b : Option ℕ} {d : ℕ} → SpellsBase mode r s b d → mode ≡ 0 → r ≡ 5
    → (b ≡ None) × IsNumber w32 (2 ^ 32) s d
none_from (no_base h) p q = (refl, (h, refl))
none_from (base h x) p q = absurd (h p q)

some_from : {mode r : ℕ} {s : List ℕ} {b : Option ℕ} {d : ℕ} → SpellsBase mode r s b d → (mode ≡ 0 → r ≢ 5)
    → (b ≡ Some r) × SpellsDisp mode s d
some_from (no_base h) p = absurd (p refl refl)
some_from (base h x) p = (refl, x)

pair_is : (p : Option ℕ × ℕ) (o : Option ℕ) → p.0 ≡ o → p ≡ (o, p.1)
pair_is p o e = λ i. (e i, p.1)

and_false : (a b : Bool) → (a && b) ≡ false → a ≡ true → b ≡ true → ⊥
and_false true true e p q = cc
and_false true false e p q = cc
and_false false b e p q = cc

pub exact_base : (mode r : ℕ) → mode < 3 → Exact (IsBase mode r) (base_at mode r)
unfolding base_at
exact_base mode r lt = Exact-if (mode == 0 && r == 5)
    (λ e. let t = and_parts (mode == 0) (r == 5) e in
    let m0 : mode ≡ 0 = eqb-true _ _ t.0 in
    let r5 : r ≡ 5 = eqb-true _ _ t.1 in
    Exact-same
    (λ s p h. rw (m0, r5, h.is, h.spelt.1) (no_base h.spelt.0))
    (λ s p h. let f = none_from h m0 r5 in record { value = p.1; spelt = f.1; is = pair_is p None f.0 })
    (Exact-made (IsNumber w32 (2 ^ 32)) (λ d. (None, d)) long_at exact_long))
    (λ e.
    let apart : mode ≡ 0 → r ≢ 5 = λ p q. and_false (mode == 0) (r == 5) e (rw p refl) (rw q refl) in
    Exact-same
    (λ s p h. rw h.is (base apart h.spelt))
    (λ s p h. let f = some_from h apart in record { value = p.1; spelt = f.1; is = pair_is p (Some r) f.0 })
    (Exact-made (SpellsDisp mode) (λ d. (Some r, d)) (disp_at mode) (exact_disp mode lt)))

-- ---- a place in memory

abbrev plain_mem : Option ℕ × ℕ → Mem
plain_mem b = record { base = b.0; index = None; scale = 1; disp = b.1 }

abbrev sib_mem : ℕ → Option ℕ × ℕ → Mem
sib_mem s b = record { base = b.0; index = index_of s; scale = scale_of s; disp = b.1 }

abbrev IsSib : ℕ → ℕ → List ℕ → Mem → Type 0
IsSib mode s = Made (IsBase mode (s % 8)) (sib_mem s)

plain_from : {mode rm : ℕ} {s : List ℕ} {m : Mem} → SpellsMem mode rm s m → rm ≢ 4 → Made (IsBase mode rm) plain_mem s m
plain_from (plain {disp = d} {b = b} n h) ne = record { value = (b, d); spelt = h; is = refl }
plain_from (sib lt h) ne = absurd (ne refl)

sib_from : {mode rm : ℕ} {s : List ℕ} {m : Mem} → SpellsMem mode rm s m → rm ≡ 4 → Then IsByte (IsSib mode) s m
sib_from (plain n h) e = absurd (n e)
sib_from (sib {s = x} {disp = d} {bytes = bytes} {b = b} lt h) e = record {
  value = x;
  front = x ∷ [];
  back = bytes;
  first = (lt, refl);
  second = record { value = (b, d); spelt = h; is = refl };
  parts = refl;
}

pub exact_mem : (mode rm : ℕ) → mode < 3 → Exact (SpellsMem mode rm) (mem_at mode rm)
unfolding mem_at
exact_mem mode rm lt = Exact-if (rm == 4)
    (λ e.
    let r4 : rm ≡ 4 = eqb-true _ _ e in
    Exact-same
    (λ s m h. rw (r4, h.parts, h.second.is, h.first.1) (sib h.first.0 h.second.spelt))
    (λ s m h. sib_from h r4)
    (Exact-then IsByte (IsSib mode) byte_at (λ s bytes. base_at mode (s % 8) bytes >>= given (sib_mem s)) exact_byte
    (λ _ s _. Exact-made (IsBase mode (s % 8)) (sib_mem s) (base_at mode (s % 8)) (exact_base mode (s % 8) lt))))
    (λ e.
    let ne : rm ≢ 4 = eqb-false _ _ e in
    Exact-same
    (λ s m h. rw h.is (plain ne h.spelt))
    (λ s m h. plain_from h ne)
    (Exact-made (IsBase mode rm) plain_mem (base_at mode rm) (exact_base mode rm lt)))

-- ---- an operand

register_from : {h : Head} {s : List ℕ} {m : Operand} → SpellsOperand h s m → h.mode ≡ 3 → (s ≡ []) × (m ≡ Reg h.rm)
register_from (register e) p = (refl, refl)
register_from (memory n x) p = absurd (n p)

memory_from : {h : Head} {s : List ℕ} {m : Operand} → SpellsOperand h s m → h.mode ≢ 3
    → Made (SpellsMem h.mode h.rm) Memory s m
memory_from (register e) p = absurd (p e)
memory_from (memory {m = m} n x) p = record { value = m; spelt = x; is = refl }

pub exact_operand : (h : Head) → h.mode < 4 → Exact (SpellsOperand h) (operand_at h)
unfolding operand_at
exact_operand h lt = Exact-if (h.mode == 3)
    (λ e.
    let m3 : h.mode ≡ 3 = eqb-true _ _ e in
    Exact-same (λ s m x. rw (x.0, x.1) (register m3)) (λ s m x. register_from x m3) (Exact-nothing (Reg h.rm)))
    (λ e.
    let ne : h.mode ≢ 3 = eqb-false _ _ e in
    let below : h.mode < 3 = omega arith in
    Exact-same (λ s m x. rw x.is (memory ne x.spelt)) (λ s m x. memory_from x ne)
    (Exact-made (SpellsMem h.mode h.rm) Memory (mem_at h.mode h.rm) (exact_mem h.mode h.rm below)))
