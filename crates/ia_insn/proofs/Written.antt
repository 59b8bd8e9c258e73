-- What is written of an operand spells it.
use Rattle.std.proofs.Common.{◌≡◌, ◌≢◌, inl, inr, ℕ, ◌+◌, ◌-◌, ◌*◌, ◌/◌, ◌%◌, ◌^◌, ◌<◌, ◌≤◌, Bool, true, false, cond}
use Rattle.std.proofs.Common.{List, [], ◌∷◌, Option, Some, None, refl, sym, ap, subst, ◌∙◌, arith}
use Rattle.std.specs.Prelude.{◌&&◌, ◌||◌, ◌==◌, not, nat_lt, nat_le}
use Rattle.std.proofs.lemmas.Bool.{eqb-true, eqb-false, ltb-true, leb-true, le-ltb, ne_eqb, not-true, and_parts}
use Rattle.std.proofs.lemmas.Bool.{or_cases}
use Rattle.ia_word.specs.Bytes.{long_bytes, sign_extended}
use Rattle.ia_insn.specs.declared.operand.Mem.{Mem}
use Rattle.ia_insn.specs.declared.operand.Operand.{Operand}
use Rattle.ia_insn.specs.declared.operand.Operand.TheVariants.{Reg, Imm, Mem as Memory}
use Rattle.ia_insn.specs.Operands.{Head, head_of, index_of, scale_of, SpellsDisp, no_disp, disp8, disp32, SpellsBase}
use Rattle.ia_insn.specs.Operands.{no_base, base, SpellsMem, plain, sib, SpellsOperand, register, memory}
use Rattle.ia_insn.specs.Writing.{fits_base, fits_index, fits_operand, three, is_signed_byte, mode_for, disp_bytes}
use Rattle.ia_insn.specs.Writing.{scale_bits, place_bytes, operand_bytes}

-- ---- the fields of a byte

pub head_three : (h m l : ℕ) → h < 4 → m < 8 → l < 8 → head_of (three h m l) ≡ record { mode = h; reg = m; rm = l }
head_three h m l p q r =
    let e0 : (64 * h + 8 * m + l) / 64 ≡ h = omega arith in
    let e1 : (64 * h + 8 * m + l) / 8 % 8 ≡ m = omega arith in
    let e2 : (64 * h + 8 * m + l) % 8 ≡ l = omega arith in
    λ i. record { mode = e0 i; reg = e1 i; rm = e2 i }

three_byte : (h m l : ℕ) → h < 4 → m < 8 → l < 8 → three h m l < 256
three_byte h m l p q r = omega arith

-- ---- displacements

extended_low : (d : ℕ) → nat_lt d 128 ≡ true → sign_extended (d % 256) ≡ d
extended_low d h =
    let lt : d < 128 = ltb-true _ _ h in
    let same : d % 256 ≡ d = omega arith in
    ap sign_extended same ∙ rw h refl

extended_high : (d : ℕ) → d < 2 ^ 32 → nat_le (2 ^ 32 - 128) d ≡ true → sign_extended (d % 256) ≡ d
extended_high d lt h =
    let le : 2 ^ 32 - 128 ≤ d = leb-true _ _ h in
    let big : 128 ≤ d % 256 = omega arith in
    let test : nat_lt (d % 256) 128 ≡ false = le-ltb _ _ big in
    let sum : d % 256 + (2 ^ 32 - 256) ≡ d = omega arith in
    rw test sum

pub extended : (d : ℕ) → d < 2 ^ 32 → is_signed_byte d ≡ true → sign_extended (d % 256) ≡ d
extended d lt e =
    elim (or_cases (nat_lt d 128) (nat_le (2 ^ 32 - 128) d)
    e) [ inl h ↦ extended_low d h | inr h ↦ extended_high d lt h ]

abbrev mode_at : Bool → Bool → Bool → ℕ
mode_at v t u = cond v 2 (cond t 0 (cond u 1 2))

abbrev IsDisp : ℕ → ℕ → ℕ → Type 0
IsDisp r d mode = (mode ≡ 0 → r ≢ 5) × SpellsDisp mode (disp_bytes mode d) d × (mode < 3)

disp_go : (r d : ℕ) (v t u : Bool) → d < 2 ^ 32 → (d == 0 && not (r == 5)) ≡ t → is_signed_byte d ≡ u
    → IsDisp r d (mode_at v t u)
disp_go r d true t u lt e f = (λ z. absurd (omega arith), disp32 lt, omega arith)
disp_go r d false true u lt e f =
    let p = and_parts (d == 0) (not (r == 5)) e in
    let d0 : d ≡ 0 = eqb-true _ _ p.0 in
    (λ _. eqb-false _ _ (not-true (r == 5) p.1), rw d0 no_disp, omega arith)
disp_go r d false false true lt e f = (
  λ z. absurd (omega arith),
  subst (λ (n : ℕ). SpellsDisp 1 (d % 256 ∷ []) n) (extended d lt f) (disp8 (omega arith)),
  omega arith,
)
disp_go r d false false false lt e f = (λ z. absurd (omega arith), disp32 lt, omega arith)

disp_spelt : (wide : Bool) (r d : ℕ) → d < 2 ^ 32 → IsDisp r d (mode_for wide r d)
disp_spelt wide r d lt = disp_go r d wide (d == 0 && not (r == 5)) (is_signed_byte d) lt refl refl

-- ---- operands

-- s is a ModRM byte with this reg field and what stands behind it
pub record Written (reg : ℕ) (s : List ℕ) (m : Operand) : Type 0 where
  pub head : ℕ
  pub rest : List ℕ
  pub parts : s ≡ head ∷ rest
  pub low : head < 256
  pub reg_is : (head_of head).reg ≡ reg
  pub spelt : SpellsOperand (head_of head) rest m

written : (h r l : ℕ) (x : List ℕ) (m : Operand) → h < 4 → r < 8 → l < 8
    → SpellsOperand (record { mode = h; reg = r; rm = l }) x m → Written r (three h r l ∷ x) m
written h r l x m p q o k =
    let is = head_three h r l p q o in
    record {
      head = three h r l;
      rest = x;
      parts = refl;
      low = three_byte h r l p q o;
      reg_is = ap (λ (z : Head). z.reg) is;
      spelt = subst (λ (z : Head). SpellsOperand z x m) (sym is) k;
    }

abbrev mem_of : Option ℕ → Option ℕ → ℕ → ℕ → Mem
mem_of b i s d = record { base = b; index = i; scale = s; disp = d }

-- the fields of a SIB byte with an index
sib_index : (t i l : ℕ) → t < 4 → i < 8 → l < 8 → i ≢ 4 → index_of (three t i l) ≡ Some i
sib_index t i l p q r ne =
    let e : (64 * t + 8 * i + l) / 8 % 8 ≡ i = omega arith in
    let test : (i == 4) ≡ false = ne_eqb i 4 ne in
    rw (e, test) refl

sib_scale : (t i l : ℕ) → t < 4 → i < 8 → l < 8 → i ≢ 4 → scale_of (three t i l) ≡ 2 ^ t
sib_scale t i l p q r ne =
    let e : (64 * t + 8 * i + l) / 8 % 8 ≡ i = omega arith in
    let f : (64 * t + 8 * i + l) / 64 ≡ t = omega arith in
    let test : (i == 4) ≡ false = ne_eqb i 4 ne in
    rw (e, test, f) refl

-- a scale that fits is two to the power of its bits
scale_go : (s : ℕ) (t u v : Bool) → (s == 1) ≡ t → (s == 2) ≡ u → (s == 4) ≡ v → (t || u || v || s == 8) ≡ true
    → (2 ^ (cond t 0 (cond u 1 (cond v 2 3))) ≡ s) × (cond t 0 (cond u 1 (cond v 2 3)) < 4)
scale_go s true u v e f g h = (sym (eqb-true _ _ e), omega arith)
scale_go s false true v e f g h = (sym (eqb-true _ _ f), omega arith)
scale_go s false false true e f g h = (sym (eqb-true _ _ g), omega arith)
scale_go s false false false e f g h = (sym (eqb-true _ _ h), omega arith)

record Index (i s : ℕ) : Type 0 where
  below : i < 8
  other : i ≢ 4
  power : 2 ^ scale_bits s ≡ s
  bits : scale_bits s < 4

index_fits : (i s : ℕ) → fits_index (Some i) s ≡ true → Index i s
index_fits i s e =
    let p = and_parts (nat_lt i 8 && not (i == 4)) (s == 1 || s == 2 || s == 4 || s == 8) e in
    let q = and_parts (nat_lt i 8) (not (i == 4)) p.0 in
    let r = scale_go s (s == 1) (s == 2) (s == 4) refl refl refl p.1 in
    record { below = ltb-true _ _ q.0; other = eqb-false _ _ (not-true (i == 4) q.1); power = r.0; bits = r.1 }

-- a place with an index
sib_spelt : (mode t i l : ℕ) (b : Option ℕ) (s d : ℕ) (x : List ℕ) → t < 4 → i < 8 → l < 8 → i ≢ 4 → 2 ^ t ≡ s
    → SpellsBase mode l x b d → SpellsMem mode 4 (three t i l ∷ x) (mem_of b (Some i) s d)
sib_spelt mode t i l b s d x p q r ne e h =
    let low : three t i l % 8 ≡ l = omega arith in
    let it = sib {mode = mode} {s = three t i l} (three_byte t i l p q r)
    (subst (λ (z : ℕ). SpellsBase mode z x b d) (sym low) h) in
    let one = subst (λ (z : Option ℕ). SpellsMem mode 4 (three t i l ∷ x) (mem_of b z (scale_of (three t i l)) d))
    (sib_index t i l p q r ne) it in
    subst (λ (z : ℕ). SpellsMem mode 4 (three t i l ∷ x) (mem_of b (Some i) z d)) (sib_scale t i l p q r ne ∙ e) one

-- base ESP without an index
esp_spelt : (mode d : ℕ) (x : List ℕ) → SpellsBase mode 4 x (Some 4) d
    → SpellsMem mode 4 (three 0 4 4 ∷ x) (mem_of (Some 4) None 1 d)
esp_spelt mode d x h = sib {mode = mode} {s = three 0 4 4} (omega arith) h

not_3 : (mode : ℕ) → mode < 3 → mode ≢ 3
not_3 mode lt e = omega arith

esp_go : (wide : Bool) (reg b d : ℕ) (t : Bool) → (b == 4) ≡ t → reg < 8 → b < 8 → d < 2 ^ 32
    → Written reg
    (cond t (three (mode_for wide b d) reg 4 ∷ three 0 4 4 ∷ disp_bytes (mode_for wide b d) d)
    (three (mode_for wide b d) reg b ∷ disp_bytes (mode_for wide b d) d)) (Memory (mem_of (Some b) None 1 d))
esp_go wide reg b d true e lr lb ld =
    let b4 : b ≡ 4 = eqb-true _ _ e in
    let p = disp_spelt wide b d ld in
    subst (λ (z : ℕ). Written reg (three (mode_for wide b d) reg 4 ∷ three 0 4 4 ∷ disp_bytes (mode_for wide b d) d)
    (Memory (mem_of (Some z) None 1 d))) (sym b4)
    (written (mode_for wide b d) reg 4 (three 0 4 4 ∷ disp_bytes (mode_for wide b d) d)
    (Memory (mem_of (Some 4) None 1 d)) (omega (arith, p.2)) lr (omega arith)
    (memory (not_3 (mode_for wide b d) p.2)
    (esp_spelt (mode_for wide b d) d (disp_bytes (mode_for wide b d) d) (base (λ _ q. omega arith) p.1))))
esp_go wide reg b d false e lr lb ld =
    let ne : b ≢ 4 = eqb-false _ _ e in
    let p = disp_spelt wide b d ld in
    written (mode_for wide b d) reg b (disp_bytes (mode_for wide b d) d) (Memory (mem_of (Some b) None 1 d))
    (omega (arith, p.2)) lr lb
    (memory (not_3 (mode_for wide b d) p.2) (plain ne (base p.0 p.1)))

place_go : (wide : Bool) (reg : ℕ) (b i : Option ℕ) (s d : ℕ) → reg < 8 → fits_base b ≡ true → fits_index i s ≡ true
    → d < 2 ^ 32 → Written reg (place_bytes wide reg b i s d) (Memory (mem_of b i s d))
unfolding place_bytes
place_go wide reg None None s d lr fb fi ld =
    let s1 : s ≡ 1 = eqb-true _ _ fi in
    subst (λ (z : ℕ). Written reg (three 0 reg 5 ∷ long_bytes d) (Memory (mem_of None None z d))) (sym s1)
    (written 0 reg 5 (long_bytes d) (Memory (mem_of None None 1 d)) (omega arith) lr (omega arith)
    (memory (not_3 0 (omega arith)) (plain (λ e. omega arith) (no_base ld))))
place_go wide reg None (Some i) s d lr fb fi ld =
    let f = index_fits i s fi in
    written 0 reg 4 (three (scale_bits s) i 5 ∷ long_bytes d) (Memory (mem_of None (Some i) s d)) (omega arith)
    lr (omega arith)
    (memory (not_3 0 (omega arith))
    (sib_spelt 0 (scale_bits s) i 5 None s d (long_bytes d) f.bits f.below (omega arith) f.other f.power (no_base ld)))
place_go wide reg (Some b) None s d lr fb fi ld =
    let s1 : s ≡ 1 = eqb-true _ _ fi in
    subst (λ (z : ℕ). Written reg
    (cond (b == 4) (three (mode_for wide b d) reg 4 ∷ three 0 4 4 ∷ disp_bytes (mode_for wide b d) d)
    (three (mode_for wide b d) reg b ∷ disp_bytes (mode_for wide b d) d)) (Memory (mem_of (Some b) None z d))) (sym s1)
    (esp_go wide reg b d (b == 4) refl lr (ltb-true _ _ fb) ld)
place_go wide reg (Some b) (Some i) s d lr fb fi ld =
    let f = index_fits i s fi in
    let p = disp_spelt wide b d ld in
    written (mode_for wide b d) reg 4 (three (scale_bits s) i b ∷ disp_bytes (mode_for wide b d) d)
    (Memory (mem_of (Some b) (Some i) s d)) (omega (arith, p.2)) lr (omega arith)
    (memory (not_3 (mode_for wide b d) p.2)
    (sib_spelt (mode_for wide b d) (scale_bits s) i b (Some b) s d (disp_bytes (mode_for wide b d) d) f.bits f.below
    (ltb-true _ _ fb) f.other f.power (base p.0 p.1)))

pub operand_spelt : (wide : Bool) (reg : ℕ) (m : Operand) → reg < 8 → fits_operand m ≡ true
    → Written reg (operand_bytes wide reg m) m
unfolding operand_bytes
operand_spelt wide reg (Reg r) lr e = written 3 reg r [] (Reg r) (omega arith) lr (ltb-true _ _ e) (register refl)
operand_spelt wide reg (Memory m) lr e =
    let p = and_parts (fits_base m.base && fits_index m.index m.scale) (nat_lt m.disp (2 ^ 32)) e in
    let q = and_parts (fits_base m.base) (fits_index m.index m.scale) p.0 in
    place_go wide reg m.base m.index m.scale m.disp lr q.0 q.1 (ltb-true _ _ p.1)
operand_spelt wide reg (Imm n) lr e = absurd cc
