-- Places in memory: registers, a register times a scale, numbers and symbols, joined by + and -, in brackets (SDM
-- volume 1, "Specifying an Offset"; NASM manual, "Effective Addresses").
use Rattle.std.specs.Prelude.{ℕ, zero, suc, ◌-◌, Bool, true, false, not, ◌==◌, ◌||◌, nat_lt, if◌then◌else◌, Option}
use Rattle.std.specs.Prelude.{Some, None, option_map, List, [], ◌∷◌, ◌++◌, map, length}
use Rattle.arrayvec.specs.ArrayVec.{ArrayVec}
use Rattle.ia_word.specs.declared.width.Width.{Width}
use Rattle.ia_word.specs.declared.width.Width.TheVariants.{D}
use Rattle.ia_insn.specs.declared.operand.Mem.{Mem}
use Rattle.ia_lex.specs.Words.{register_of}
use Rattle.ia_lex.specs.Tokens.{Lexeme, Word, Number}
use Rattle.ia_lex.specs.Terms.{AtomContent, TermContent, term_content, atom_content, atom_of, sign_of, by_sign}
use Rattle.ia_lex.specs.declared.terms.Term.{Term}
use Rattle.ia_source.specs.Commas.{is_mark_of}
use Rattle.ia_source.specs.declared.memory.Piece.{Piece as CodePiece}
use Rattle.ia_source.specs.declared.memory.Piece.TheVariants as piece

-- base and index, and the terms of the displacement, which stands as 0
pub record MemoryOperand : Type 0 where
  pub mem : Mem
  pub terms : List TermContent

abbrev pub nowhere : Mem
nowhere = record { base = None; index = None; scale = 1; disp = 0 }

-- ---- registers

abbrev pub if_long : Option (Width × ℕ) → Option ℕ
if_long (Some (D, r)) = Some r
if_long _ = None

-- the register of 32 bits that a token names
abbrev pub long_register : Lexeme → Option ℕ
long_register (Word w) = if_long (register_of w)
long_register _ = None

-- the scale that a token is
abbrev pub if_scale : Option ℕ → Option ℕ
if_scale None = None
if_scale (Some n) = if (n == 1) || (n == 2) || (n == 4) || (n == 8) then Some n else None

abbrev pub scale_of : Lexeme → Option ℕ
scale_of (Number n) = if_scale n
scale_of _ = None

-- one more register: the base; behind another the index, where an ESP changes places with it
abbrev pub with_base : Option ℕ → Option ℕ → ℕ → ℕ → Option Mem
with_base None index scale r = Some (record { base = Some r; index = index; scale = scale; disp = 0 })
with_base (Some b) (Some i) scale r = None
with_base (Some b) None scale r =
    if r == 4 then (if b == 4 then None else Some (record { base = Some 4; index = Some b; scale = 1; disp = 0 }))
    else Some (record { base = Some b; index = Some r; scale = 1; disp = 0 })

abbrev pub with_register : Mem → ℕ → Option Mem
with_register m r = with_base m.base m.index m.scale r

-- one more register with a scale: the index, which is not ESP
abbrev pub with_index : Option ℕ → Option ℕ → ℕ → ℕ → Option Mem
with_index base (Some i) r s = None
with_index base None r s = if r == 4 then None else Some (record { base = base; index = Some r; scale = s; disp = 0 })

abbrev pub with_scaled : Mem → ℕ → ℕ → Option Mem
with_scaled m r s = with_index m.base m.index r s

-- one more term, of at most 16
abbrev pub with_term : List TermContent → Bool → AtomContent → Option (List TermContent)
with_term ps neg v = if nat_lt (length ps) 16 then Some (ps ++ (record { negative = neg; atom = v }) ∷ []) else None

-- ---- pieces

-- a register; a register times a scale; a number or a symbol
pub data Piece : Type 0 where
  Register : ℕ → Piece
  Scaled : ℕ → ℕ → Piece
  Valued : AtomContent → Piece

abbrev pub plain_or : Option ℕ → Option AtomContent → Option Piece
plain_or (Some r) v = Some (Register r)
plain_or None v = option_map Valued v

abbrev pub plain : Lexeme → Option Piece
plain t = plain_or (long_register t) (atom_of t)

abbrev pub both : Option ℕ → Option ℕ → Option Piece
both (Some r) (Some s) = Some (Scaled r s)
both _ _ = None

-- a register times a scale, or a scale times a register
abbrev pub product : Lexeme → Lexeme → Option Piece
product (Word w) v = both (long_register (Word w)) (scale_of v)
product t v = both (long_register v) (scale_of t)

abbrev pub of_length : ℕ → Option Piece → Option (Piece × ℕ)
of_length n None = None
of_length n (Some p) = Some (p, n)

-- what stands behind a * in front
abbrev pub factor_of : List Lexeme → Option Lexeme
factor_of (u ∷ v ∷ ts) = if is_mark_of 42 u then Some v else None
factor_of _ = None

abbrev pub by_factor : Lexeme → Option Lexeme → Option (Piece × ℕ)
by_factor t None = of_length 1 (plain t)
by_factor t (Some v) = of_length 3 (product t v)

-- the piece in front, and how many tokens it takes
abbrev pub piece_at : List Lexeme → Option (Piece × ℕ)
piece_at [] = None
piece_at (t ∷ ts) = by_factor t (factor_of ts)

abbrev pub keep_terms : List TermContent → Option Mem → Option (Mem × List TermContent)
keep_terms ps None = None
keep_terms ps (Some m) = Some (m, ps)

abbrev pub keep_mem : Mem → Option (List TermContent) → Option (Mem × List TermContent)
keep_mem m None = None
keep_mem m (Some ps) = Some (m, ps)

-- a place with one more piece; behind some signs no register may stand
abbrev pub with_piece : Mem → List TermContent → Bool → Bool → Piece → Option (Mem × List TermContent)
with_piece m ps neg register (Register r) = if register then keep_terms ps (with_register m r) else None
with_piece m ps neg register (Scaled r s) = if register then keep_terms ps (with_scaled m r s) else None
with_piece m ps neg register (Valued v) = keep_mem m (with_term ps neg v)

-- ---- places

abbrev pub by_new_piece : Option (Mem × List TermContent) → ℕ → (Mem → List TermContent → ℕ → Option MemoryOperand)
    → Option MemoryOperand
by_new_piece None n next = None
by_new_piece (Some x) n next = next x.0 x.1 (n - 1)

abbrev pub by_piece : Mem → List TermContent → Bool → Bool → Option (Piece × ℕ) → (Mem → List TermContent → ℕ
    → Option MemoryOperand) → Option MemoryOperand
by_piece m ps neg register None next = None
by_piece m ps neg register (Some p) next = by_new_piece (with_piece m ps neg register p.0) p.1 next

-- the last token of a place is its closing bracket
abbrev pub memory_end : Mem → List TermContent → List Lexeme → Option MemoryOperand
memory_end m ps [] = Some (record { mem = m; terms = ps })
memory_end m ps (t ∷ ts) = None

-- A place, so far, and the tokens behind it. skip: so many of them belong to the piece before. Then: behind a sign,
-- which may take away and may be one that no register stands behind; or behind a piece.
abbrev pub memory_from : ℕ → Mem → List TermContent → Option (Bool × Bool) → List Lexeme → Option MemoryOperand
memory_from skip m ps j [] = None
memory_from (suc skip) m ps j (t ∷ ts) = memory_from skip m ps j ts
memory_from zero m ps None (t ∷ ts) =
    if is_mark_of 93 t then memory_end m ps ts
    else by_sign (sign_of t) None (λ neg. memory_from 0 m ps (Some (neg, not neg)) ts)
memory_from zero m ps (Some j) (t ∷ ts) = by_piece m ps j.0 j.1 (piece_at (t ∷ ts))
    (λ m ps n. memory_from n m ps None ts)

-- the place whose tokens stand behind an opening bracket; a sign in front belongs to a number or a symbol
unfoldable pub memory_of : List Lexeme → Option MemoryOperand
memory_of [] = None
memory_of (t ∷ ts) = by_sign (sign_of t) (memory_from 0 nowhere [] (Some (false, true)) (t ∷ ts))
    (λ neg. memory_from 0 nowhere [] (Some (neg, false)) ts)

-- ---- what the code's values stand for

abbrev pub terms_content : ArrayVec Term → List TermContent
terms_content e = map term_content e.items

abbrev pub piece_content : CodePiece → Piece
piece_content (piece.Register r) = Register r
piece_content (piece.Scaled r s) = Scaled r s
piece_content (piece.Valued a) = Valued (atom_content a)

abbrev pub piece_and_length : CodePiece × ℕ → Piece × ℕ
piece_and_length x = (piece_content x.0, x.1)

-- a place, and the terms of its displacement
abbrev pub place_content : Mem → ArrayVec Term → MemoryOperand
place_content m e = record { mem = m; terms = terms_content e }
