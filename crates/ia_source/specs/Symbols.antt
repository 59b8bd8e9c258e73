-- The names of symbols (NASM manual, "Local Labels"): a name that begins with a dot belongs to the label before it.
pub use Rattle.ia_names.specs.Locals.{is_local, whole_of}
use Rattle.std.specs.Prelude.{ℕ, Option, Some, None, List, [], ◌∷◌, map}
use Rattle.ia_lex.specs.Terms.{AtomContent, NumberAtom, SymbolAtom, TermContent, term_content}
use Rattle.ia_lex.specs.declared.terms.Term.{Term}

abbrev pub atom_in_scope : List ℕ → AtomContent → AtomContent
atom_in_scope scope (NumberAtom n) = NumberAtom n
atom_in_scope scope (SymbolAtom own) = SymbolAtom (whole_of scope own)

-- a term of an expression, its symbol by the whole name
abbrev pub term_in_scope : List ℕ → TermContent → TermContent
term_in_scope scope p = record { negative = p.negative; atom = atom_in_scope scope p.atom }

-- an expression, where there is one
abbrev pub terms_in_scope : List ℕ → List TermContent → Option (List TermContent)
terms_in_scope scope [] = None
terms_in_scope scope (p ∷ ps) = Some (map (term_in_scope scope) (p ∷ ps))

-- ---- what the code's values stand for

abbrev pub scoped_term : List ℕ → Term → TermContent
scoped_term scope t = term_in_scope scope (term_content t)
