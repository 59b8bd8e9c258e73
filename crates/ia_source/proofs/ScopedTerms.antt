-- Sums, part by part.
use Rattle.std.proofs.Common.{◌≡◌, ℕ, ◌+◌, ◌<◌, ◌≤◌, List, [], ◌∷◌, ◌++◌, refl, sym, ◌∙◌, ap, drop, length, map, get_or}
use Rattle.std.proofs.Common.{append_assoc, append-nil}
use Rattle.std.proofs.lemmas.List.{map-append, at_drop_more, at_drop_all}
use Rattle.ia_lex.specs.declared.terms.Term.{Term}
use Rattle.ia_lex.specs.Terms.{TermContent, term_content}
use Rattle.ia_item.specs.declared.expression.ScopedTerm.{ScopedTerm}
use Rattle.ia_names.specs.Namings.{Naming}
use Rattle.ia_source.specs.Contents.{scoped_term_content}
use Rattle.ia_source.specs.Symbols.{term_in_scope, scoped_term}

-- one more part
pub step : (naming : Naming) (scope : List ℕ) (done : List ScopedTerm) (p : ScopedTerm) (more : List ScopedTerm)
    (xs : List Term) (i : ℕ) (x : Term) (all : List TermContent) → i < length xs
    → map (scoped_term_content naming) done ++ map (scoped_term scope) (drop i xs) ≡ all → more ≡ done ++ p ∷ []
    → scoped_term_content naming p ≡ scoped_term scope (get_or xs i x)
    → map (scoped_term_content naming) more ++ map (scoped_term scope) (drop (i + 1) xs) ≡ all
step naming scope done p more xs i x all h e m q =
    ap (λ (l : List ScopedTerm). map (scoped_term_content naming) l ++ map (scoped_term scope) (drop (i + 1) xs)) m
    ∙ ap (λ (l : List TermContent). l ++ map (scoped_term scope) (drop (i + 1) xs))
    (map-append (scoped_term_content naming) done (p ∷ []))
    ∙ append_assoc (map (scoped_term_content naming) done) (scoped_term_content naming p ∷ [])
    (map (scoped_term scope) (drop (i + 1) xs))
    ∙ ap (λ (v : TermContent). map (scoped_term_content naming) done ++ v ∷ map (scoped_term scope) (drop (i + 1) xs)) q
    ∙ ap (λ (l : List TermContent). map (scoped_term_content naming) done ++ l)
    (sym (at_drop_more (map (scoped_term scope)) xs i x h)) ∙ e

-- all parts
pub finish : (naming : Naming) (scope : List ℕ) (done : List ScopedTerm) (xs : List Term) (i : ℕ)
    (all : List TermContent) → length xs ≤ i
    → map (scoped_term_content naming) done ++ map (scoped_term scope) (drop i xs) ≡ all
    → map (scoped_term_content naming) done ≡ all
finish naming scope done xs i all h e =
    sym (append-nil (map (scoped_term_content naming) done))
    ∙ ap (λ (l : List TermContent). map (scoped_term_content naming) done ++ l)
    (sym (at_drop_all (map (scoped_term scope)) xs i h)) ∙ e

pub twice : (scope : List ℕ) (xs : List Term)
    → map (scoped_term scope) xs ≡ map (term_in_scope scope) (map term_content xs)
twice scope [] = refl
twice scope (x ∷ xs) = ap (λ l. scoped_term scope x ∷ l) (twice scope xs)

-- terms that get their scope one by one
pub ruleset scoped_steps = (step, finish, twice)
