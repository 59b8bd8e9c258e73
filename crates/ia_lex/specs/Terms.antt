-- Terms, and reading them from tokens.
use Rattle.std.specs.Prelude.{ℕ, zero, suc, Bool, true, false, ◌==◌, if◌then◌else◌, Option, Some, None}
use Rattle.std.specs.Prelude.{List, [], ◌∷◌, ◌++◌, map}
use Rattle.ia_lex.specs.Tokens.{Lexeme, Word, Number, Text, Mark, lexeme_of}
use Rattle.ia_lex.specs.declared.token.Token.{Token}
use Rattle.arrayvec.specs.ArrayVec.{ArrayVec}
use denote.Bor.{Bor}
use Rattle.ia_word.specs.declared.width.Width.{Width}
use Rattle.ia_lex.specs.Words.{register_of}
use Rattle.ia_lex.specs.declared.terms.Atom.{Atom}
use Rattle.ia_lex.specs.declared.terms.Atom.TheVariants as atom
use Rattle.ia_lex.specs.declared.terms.Term.{Term}

-- a number, none where it is above 2^64 - 1; a symbol
pub data AtomContent : Type 0 where
  NumberAtom : Option ℕ → AtomContent
  SymbolAtom : List ℕ → AtomContent

pub record TermContent : Type 0 where
  pub negative : Bool
  pub atom : AtomContent

abbrev pub atom_content : Atom → AtomContent
atom_content (atom.Number n) = NumberAtom n
atom_content (atom.Symbol s) = SymbolAtom s.now

abbrev pub term_content : Term → TermContent
term_content t = record { negative = t.negative; atom = atom_content t.atom }

-- the value of one byte between quotes is its byte
abbrev pub byte_value : List ℕ → Option AtomContent
byte_value (b ∷ []) = Some (NumberAtom (Some b))
byte_value _ = None

-- a word that names no register is a symbol
abbrev pub symbol_of : Option (Width × ℕ) → List ℕ → Option AtomContent
symbol_of None w = Some (SymbolAtom w)
symbol_of (Some r) w = None

abbrev pub atom_of : Lexeme → Option AtomContent
atom_of (Word w) = symbol_of (register_of w) w
atom_of (Number n) = Some (NumberAtom n)
atom_of (Text t) = byte_value t
atom_of (Mark b) = None

-- + and -
abbrev pub sign_of : Lexeme → Option Bool
sign_of (Mark b) = if b == 43 then Some false else if b == 45 then Some true else None
sign_of _ = None

-- a term before others
abbrev pub before : TermContent → Option (List TermContent × List Lexeme) → Option (List TermContent × List Lexeme)
before p None = None
before p (Some (ps, rest)) = Some (p ∷ ps, rest)

abbrev pub by_sign : {X : Type 0} → Option Bool → X → (Bool → X) → X
by_sign None plain signed = plain
by_sign (Some neg) plain signed = signed neg

abbrev pub by_atom : Option AtomContent → Bool → Option (List TermContent × List Lexeme)
    → Option (List TermContent × List Lexeme)
by_atom None neg more = None
by_atom (Some v) neg more = before (record { negative = neg; atom = v }) more

-- Terms joined by + and -, at most so many, and the tokens behind them: behind a sign, or behind a term.
abbrev pub terms_at : ℕ → Option Bool → List Lexeme → Option (List TermContent × List Lexeme)
terms_at room None [] = Some ([], [])
terms_at room None (t ∷ ts) = by_sign (sign_of t) (Some ([], t ∷ ts)) (λ neg. terms_at room (Some neg) ts)
terms_at room (Some neg) [] = None
terms_at zero (Some neg) (t ∷ ts) = None
terms_at (suc room) (Some neg) (t ∷ ts) = by_atom (atom_of t) neg (terms_at room None ts)

-- a sum or difference of at most 16 terms, with a sign in front or none, and the tokens behind it
abbrev pub expression_at : List Lexeme → Option (List TermContent × List Lexeme)
expression_at [] = None
expression_at (t ∷ ts) = by_sign (sign_of t) (terms_at 16 (Some false) (t ∷ ts)) (λ neg. terms_at 16 (Some neg) ts)

abbrev pub with_terms : List TermContent → Option (List TermContent × List Lexeme)
    → Option (List TermContent × List Lexeme)
with_terms front None = None
with_terms front (Some (ps, rest)) = Some (front ++ ps, rest)

-- an expression and the tokens behind it, as contents
abbrev pub expression_and_rest : ArrayVec Term × Bor (List Token) → List TermContent × List Lexeme
expression_and_rest (e, rest) = (map term_content e.items, map lexeme_of rest.now)
