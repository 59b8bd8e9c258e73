-- Places add up to the sums of their addends.
use Rattle.std.proofs.Common.{◌≡◌, ℕ, zero, suc, ◌-◌, Bool, true, false, cond, not, Option, Some, None, List, [], ◌∷◌}
use Rattle.std.proofs.Common.{◌++◌, length, refl, sym, ap, subst, ◌∙◌, arith, pos, ◌+ℤ◌, ◌*ℤ◌, inl, inr}
use Rattle.std.specs.Prelude.{ℤ, ◌==◌, nat_lt}
use Rattle.std.proofs.lemmas.Bool.{cases_Bool, eqb-true}
use Rattle.std.proofs.lemmas.Int.{ints}
use Rattle.ia_insn.specs.declared.operand.Mem.{Mem}
use Rattle.ia_lex.specs.Tokens.{Lexeme}
use Rattle.ia_lex.specs.Terms.{AtomContent, TermContent, by_sign, sign_of}
use Rattle.ia_source.specs.Commas.{is_mark_of}
use Rattle.ia_source.specs.MemoryOperands.{MemoryOperand, Piece, Register, Scaled, Valued, by_new_piece, by_piece}
use Rattle.ia_source.specs.MemoryOperands.{keep_terms, memory_end, memory_from, memory_of, nowhere, piece_at, with_base}
use Rattle.ia_source.specs.MemoryOperands.{with_index, with_piece}
use Rattle.ia_source.specs.Addends.{Addend, PlacesAreSums, addends_from, addends_of, after_piece, base_value}
use Rattle.ia_source.specs.Addends.{index_value, piece_value, place_value, signed, sum_of, terms_value}

-- ---- one more piece

terms_more : (atoms : AtomContent → ℤ) (ts : List TermContent) (t : TermContent)
    → terms_value atoms (ts ++ t ∷ []) ≡ terms_value atoms ts +ℤ signed t.negative (atoms t.atom)
terms_more atoms [] t = let v = signed t.negative (atoms t.atom) in omega (arith, ints)
terms_more atoms (x ∷ ts) t = let more = terms_more atoms ts t in omega (arith, ints, more)

-- the registers of a place, if there is one, add up to this
abbrev RegistersAre : (ℕ → ℤ) → Option Mem → ℤ → Type 0
RegistersAre registers None v = Unit {0}
RegistersAre registers (Some m) v = base_value registers m.base +ℤ index_value registers m.index m.scale ≡ v

with_base_adds : (registers : ℕ → ℤ) (base index : Option ℕ) (scale r : ℕ) →
    RegistersAre registers (with_base base index scale r)
    ((base_value registers base +ℤ index_value registers index scale) +ℤ registers r)
with_base_adds registers None index scale r = omega (arith, ints)
with_base_adds registers (Some b) (Some i) scale r = tt
with_base_adds registers (Some b) None scale r = elim (cases_Bool (r == 4)) [
  | inl t ↦ elim (cases_Bool (b == 4)) [
    | inl u ↦ rw (t, u) tt
    | inr u ↦ let same : registers 4 ≡ registers r = ap registers (sym (eqb-true r 4 t)) in
        rw (t, u) (omega (arith, ints, same))
  ]
  | inr f ↦ rw f (omega (arith, ints))
]

with_index_adds : (registers : ℕ → ℤ) (base index : Option ℕ) (scale r s : ℕ) →
    RegistersAre registers (with_index base index r s)
    ((base_value registers base +ℤ index_value registers index scale) +ℤ registers r *ℤ pos s)
with_index_adds registers base (Some i) scale r s = tt
with_index_adds registers base None scale r s =
    elim (cases_Bool (r == 4)) [ inl t ↦ rw t tt | inr f ↦ rw f (omega (arith, ints)) ]

-- a place, if there is one, adds up to this
abbrev PlaceIs : (ℕ → ℤ) → (AtomContent → ℤ) → Option (Mem × List TermContent) → ℤ → Type 0
PlaceIs registers atoms None v = Unit {0}
PlaceIs registers atoms (Some x) v = place_value registers atoms x.0 x.1 ≡ v

kept : (registers : ℕ → ℤ) (atoms : AtomContent → ℤ) (ps : List TermContent) (o : Option Mem) (v w : ℤ)
    → RegistersAre registers o v → v +ℤ terms_value atoms ps ≡ w → PlaceIs registers atoms (keep_terms ps o) w
kept registers atoms ps None v w h e = tt
kept registers atoms ps (Some m) v w h e = omega (arith, ints, h, e)

-- no register is taken away
abbrev AddsRegisters : Bool → Bool → Type 0
AddsRegisters negative register = register ≡ true → negative ≡ false

with_piece_adds : (registers : ℕ → ℤ) (atoms : AtomContent → ℤ) (m : Mem) (ps : List TermContent)
    (negative register : Bool) (p : Piece) → AddsRegisters negative register →
    PlaceIs registers atoms (with_piece m ps negative register p)
    (place_value registers atoms m ps +ℤ signed negative (piece_value registers atoms p))
with_piece_adds registers atoms m ps negative false (Register r) ok = tt
with_piece_adds registers atoms m ps negative true (Register r) ok =
    rw (ok refl)
    (kept registers atoms ps (with_base m.base m.index m.scale r) _ _
    (with_base_adds registers m.base m.index m.scale r) (omega (arith, ints)))
with_piece_adds registers atoms m ps negative false (Scaled r s) ok = tt
with_piece_adds registers atoms m ps negative true (Scaled r s) ok =
    rw (ok refl)
    (kept registers atoms ps (with_index m.base m.index r s) _ _ (with_index_adds registers m.base m.index m.scale r s)
    (omega (arith, ints)))
with_piece_adds registers atoms m ps negative register (Valued v) ok = elim (cases_Bool (nat_lt (length ps) 16)) [
  | inl t ↦
      let more = terms_more atoms ps (record { negative = negative; atom = v }) in rw t (omega (arith, ints, more))
  | inr f ↦ rw f tt
]

-- ---- piece after piece

-- a place that was read adds up to what was read before and what the tokens behind add up to
abbrev Adds : (ℕ → ℤ) → (AtomContent → ℤ) → MemoryOperand → ℤ → List Addend → Type 0
Adds registers atoms place v more = place_value registers atoms place.mem place.terms ≡ v +ℤ sum_of registers atoms more

ended : (registers : ℕ → ℤ) (atoms : AtomContent → ℤ) (m : Mem) (ps : List TermContent) (ts : List Lexeme)
    (place : MemoryOperand) → memory_end m ps ts ≡ Some place
    → Adds registers atoms place (place_value registers atoms m ps) []
ended registers atoms m ps (t ∷ ts) place e = cc
ended registers atoms m ps [] place e =
    let P : MemoryOperand → Type 0 = λ q. Adds registers atoms q (place_value registers atoms m ps) [] in
    let whole : MemoryOperand = record { mem = m; terms = ps } in
    let same : whole ≡ place = cc in
    subst P same (omega (arith, ints))

behind : (registers : ℕ → ℤ) (atoms : AtomContent → ℤ) (b : Bool) (s : Option Bool) (m : Mem) (ps : List TermContent)
    (ts : List Lexeme) (place : MemoryOperand) →
    ((negative : Bool) → memory_from 0 m ps (Some (negative, not negative)) ts ≡ Some place
    → Adds registers atoms place (place_value registers atoms m ps) (addends_from 0 (Some negative) ts)) →
    cond b (memory_end m ps ts) (by_sign s None (λ negative. memory_from 0 m ps (Some (negative, not negative)) ts))
    ≡ Some place →
    Adds registers atoms place (place_value registers atoms m ps)
    (cond b [] (by_sign s [] (λ negative. addends_from 0 (Some negative) ts)))
behind registers atoms true s m ps ts place more e = ended registers atoms m ps ts place e
behind registers atoms false None m ps ts place more e = cc
behind registers atoms false (Some negative) m ps ts place more e = more negative e

new_piece : (registers : ℕ → ℤ) (atoms : AtomContent → ℤ) (o : Option (Mem × List TermContent)) (v : ℤ) (n : ℕ)
    (ts : List Lexeme) (place : MemoryOperand) → PlaceIs registers atoms o v →
    ((m : Mem) (ps : List TermContent) (k : ℕ) → memory_from k m ps None ts ≡ Some place
    → Adds registers atoms place (place_value registers atoms m ps) (addends_from k None ts)) →
    by_new_piece o n (λ m ps k. memory_from k m ps None ts) ≡ Some place
    → Adds registers atoms place v (addends_from (n - 1) None ts)
new_piece registers atoms None v n ts place is more e = cc
new_piece registers atoms (Some x) v n ts place is more e =
    more x.0 x.1 (n - 1) e ∙ ap (λ w. w +ℤ sum_of registers atoms (addends_from (n - 1) None ts)) is

at_piece : (registers : ℕ → ℤ) (atoms : AtomContent → ℤ) (q : Option (Piece × ℕ)) (m : Mem) (ps : List TermContent)
    (negative register : Bool) (ts : List Lexeme) (place : MemoryOperand) → AddsRegisters negative register →
    ((m : Mem) (ps : List TermContent) (k : ℕ) → memory_from k m ps None ts ≡ Some place
    → Adds registers atoms place (place_value registers atoms m ps) (addends_from k None ts)) →
    by_piece m ps negative register q (λ m ps k. memory_from k m ps None ts) ≡ Some place →
    Adds registers atoms place (place_value registers atoms m ps) (after_piece negative q (λ k. addends_from k None ts))
at_piece registers atoms None m ps negative register ts place ok more e = cc
at_piece registers atoms (Some p) m ps negative register ts place ok more e =
    let adds = new_piece registers atoms (with_piece m ps negative register p.0) _ p.1 ts place
    (with_piece_adds registers atoms m ps negative register p.0 ok) more e in
    omega (arith, ints, adds)

adds_registers : (negative : Bool) → AddsRegisters negative (not negative)
adds_registers true e = cc
adds_registers false e = refl

abbrev sign_in : Option (Bool × Bool) → Option Bool
sign_in None = None
sign_in (Some j) = Some j.0

abbrev FitsSign : Option (Bool × Bool) → Type 0
FitsSign None = Unit {0}
FitsSign (Some j) = AddsRegisters j.0 j.1

adds_from : (registers : ℕ → ℤ) (atoms : AtomContent → ℤ) (skip : ℕ) (m : Mem) (ps : List TermContent)
    (j : Option (Bool × Bool)) (ts : List Lexeme) (place : MemoryOperand) → FitsSign j →
    memory_from skip m ps j ts ≡ Some place
    → Adds registers atoms place (place_value registers atoms m ps) (addends_from skip (sign_in j) ts)
adds_from registers atoms zero m ps None [] place ok e = cc
adds_from registers atoms zero m ps (Some j) [] place ok e = cc
adds_from registers atoms (suc k) m ps j [] place ok e = cc
adds_from registers atoms (suc k) m ps j (t ∷ ts) place ok e = adds_from registers atoms k m ps j ts place ok e
adds_from registers atoms zero m ps None (t ∷ ts) place ok e =
    behind registers atoms (is_mark_of 93 t) (sign_of t) m ps ts place
    (λ negative h. adds_from registers atoms 0 m ps (Some (negative, not negative)) ts place
    (adds_registers negative) h) e
adds_from registers atoms zero m ps (Some j) (t ∷ ts) place ok e =
    at_piece registers atoms (piece_at (t ∷ ts)) m ps j.0 j.1 ts place ok
    (λ n qs k h. adds_from registers atoms k n qs None ts place tt h) e

first : (registers : ℕ → ℤ) (atoms : AtomContent → ℤ) (s : Option Bool) (t : Lexeme) (ts : List Lexeme)
    (place : MemoryOperand) →
    by_sign s (memory_from 0 nowhere [] (Some (false, true)) (t ∷ ts))
    (λ negative. memory_from 0 nowhere [] (Some (negative, false)) ts) ≡ Some place →
    Adds registers atoms place (place_value registers atoms nowhere [])
    (by_sign s (addends_from 0 (Some false) (t ∷ ts)) (λ negative. addends_from 0 (Some negative) ts))
first registers atoms None t ts place e =
    adds_from registers atoms 0 nowhere [] (Some (false, true)) (t ∷ ts) place (λ h. refl) e
first registers atoms (Some negative) t ts place e =
    adds_from registers atoms 0 nowhere [] (Some (negative, false)) ts place (λ h. cc) e

pub places_are_sums : PlacesAreSums
unfolding memory_of addends_of
places_are_sums registers atoms [] place e = cc
places_are_sums registers atoms (t ∷ ts) place e =
    let adds = first registers atoms (sign_of t) t ts place e in
    omega (arith, ints, adds)
