-- A place in memory as the sum of its addends: what the tokens between the brackets add up to, in whichever order they
-- stand (SDM volume 1, "Specifying an Offset": base + index * scale + displacement).
use Rattle.std.specs.Prelude.{◌≡◌, ℕ, zero, suc, ◌-◌, Bool, false, if◌then◌else◌, Option, Some, None, List, [], ◌∷◌}
use Rattle.std.specs.Prelude.{ℤ, pos, ◌+ℤ◌, ◌-ℤ◌, ◌*ℤ◌}
use Rattle.ia_insn.specs.declared.operand.Mem.{Mem}
use Rattle.ia_lex.specs.Tokens.{Lexeme}
use Rattle.ia_lex.specs.Terms.{AtomContent, TermContent, by_sign, sign_of}
use Rattle.ia_source.specs.Commas.{is_mark_of}
use Rattle.ia_source.specs.MemoryOperands.{MemoryOperand, Piece, Register, Scaled, Valued, memory_of, piece_at}

-- a piece, and whether it is taken away
pub record Addend : Type 0 where
  pub negative : Bool
  pub piece : Piece

abbrev pub after_piece : Bool → Option (Piece × ℕ) → (ℕ → List Addend) → List Addend
after_piece negative None more = []
after_piece negative (Some p) more = record { negative = negative; piece = p.0 } ∷ more (p.1 - 1)

-- The addends of tokens up to the closing bracket, the first so many of which belong to the piece before: behind a
-- sign, or behind a piece.
abbrev pub addends_from : ℕ → Option Bool → List Lexeme → List Addend
addends_from skip sign [] = []
addends_from (suc skip) sign (t ∷ ts) = addends_from skip sign ts
addends_from zero None (t ∷ ts) =
    if is_mark_of 93 t then [] else by_sign (sign_of t) [] (λ negative. addends_from 0 (Some negative) ts)
addends_from zero (Some negative) (t ∷ ts) =
    after_piece negative (piece_at (t ∷ ts)) (λ n. addends_from n None ts)

-- the first may have a sign in front
unfoldable pub addends_of : List Lexeme → List Addend
addends_of [] = []
addends_of (t ∷ ts) =
    by_sign (sign_of t) (addends_from 0 (Some false) (t ∷ ts)) (λ negative. addends_from 0 (Some negative) ts)

-- ---- what they add up to, where registers and atoms have these values

abbrev pub signed : Bool → ℤ → ℤ
signed negative v = if negative then pos 0 -ℤ v else v

abbrev pub piece_value : (ℕ → ℤ) → (AtomContent → ℤ) → Piece → ℤ
piece_value registers atoms (Register r) = registers r
piece_value registers atoms (Scaled r s) = registers r *ℤ pos s
piece_value registers atoms (Valued v) = atoms v

abbrev pub sum_of : (ℕ → ℤ) → (AtomContent → ℤ) → List Addend → ℤ
sum_of registers atoms [] = pos 0
sum_of registers atoms (a ∷ more) =
    signed a.negative (piece_value registers atoms a.piece) +ℤ sum_of registers atoms more

-- the address of a place: base, index times scale, and the terms of its displacement
abbrev pub base_value : (ℕ → ℤ) → Option ℕ → ℤ
base_value registers None = pos 0
base_value registers (Some r) = registers r

abbrev pub index_value : (ℕ → ℤ) → Option ℕ → ℕ → ℤ
index_value registers None s = pos 0
index_value registers (Some r) s = registers r *ℤ pos s

abbrev pub terms_value : (AtomContent → ℤ) → List TermContent → ℤ
terms_value atoms [] = pos 0
terms_value atoms (t ∷ ts) = signed t.negative (atoms t.atom) +ℤ terms_value atoms ts

abbrev pub place_value : (ℕ → ℤ) → (AtomContent → ℤ) → Mem → List TermContent → ℤ
place_value registers atoms m terms = (base_value registers m.base +ℤ index_value registers m.index m.scale)
    +ℤ terms_value atoms terms

-- a place that tokens are read as has the sum of their addends as its address
abbrev pub PlacesAreSums : Type 0
PlacesAreSums = (registers : ℕ → ℤ) (atoms : AtomContent → ℤ) (tokens : List Lexeme) (place : MemoryOperand)
    → memory_of tokens ≡ Some place
    → place_value registers atoms place.mem place.terms ≡ sum_of registers atoms (addends_of tokens)
