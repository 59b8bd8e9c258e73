-- The picks of a history, made again one after another.
use Rattle.std.proofs.Common.{◌≡◌, ◌≤◌, ◌+◌, ◌∙◌, ℕ, List, [], ◌∷◌, ◌++◌, Some, length, take, drop}
use Rattle.std.proofs.Common.{ap, append_assoc, subst, sym}
use Rattle.std.proofs.lemmas.List.{length-map, map-append, take-append-drop, take_all, take_more}
use Rattle.std.proofs.lemmas.Option.{get_or_from_slice_get, slice_get_within}
use Rattle.std.specs.Prelude.{slice_get}
use Rattle.elide_setup.specs.Refused.{IsNextOf}
use Rattle.elide_setup.specs.Schedules.{picks_made}
use Rattle.tm_model.specs.Runs.{pick_of, picks_of}
use Rattle.tm_model.specs.declared.outcome.Outcome.{Outcome}
use Rattle.tm_model.specs.declared.outcome.Pick.{Pick}

-- the picks up to one of them, and that
one_more : (picks : List Pick) (i : ℕ) (pick : Pick) → slice_get picks i ≡ Some pick
    → take (i + 1) picks ≡ take i picks ++ pick ∷ []
one_more picks i pick there =
    take_more picks i pick (slice_get_within picks i pick there)
    ∙ ap (λ (x : Pick). take i picks ++ x ∷ []) (get_or_from_slice_get picks i pick pick there)

-- one step more
pub picks_more : (picks : List Pick) (i : ℕ) (pick : Pick) (outcome : Outcome) (made : List (Pick × Outcome)) →
    slice_get picks i ≡ Some pick → picks_made made ≡ take i picks →
    picks_made (made ++ (pick, outcome) ∷ []) ≡ take (i + 1) picks
picks_more picks i pick outcome made there same =
    map-append (λ (one : Pick × Outcome). one.0) made ((pick, outcome) ∷ [])
    ∙ ap (λ (xs : List Pick). xs ++ pick ∷ []) same
    ∙ sym (one_more picks i pick there)

-- all of them
pub picks_all : (history : List (ℕ × Outcome)) (i : ℕ) (picks : List Pick) → length history ≤ i →
    picks ≡ take i (picks_of history) → picks ≡ picks_of history
picks_all history i picks all same =
    same ∙ take_all i (picks_of history) (subst (λ (n : ℕ). n ≤ i) (sym (length-map history pick_of)) all)

-- the next one
pub next_at : (picks : List Pick) (i : ℕ) (pick : Pick) (made : List (Pick × Outcome)) →
    slice_get picks i ≡ Some pick → picks_made made ≡ take i picks → IsNextOf picks made pick
next_at picks i pick made there same = (
  drop (i + 1) picks,
  sym (take-append-drop (i + 1) picks)
      ∙ ap (λ (xs : List Pick). xs ++ drop (i + 1) picks) (one_more picks i pick there)
      ∙ append_assoc (take i picks) (pick ∷ []) (drop (i + 1) picks)
      ∙ ap (λ (xs : List Pick). xs ++ pick ∷ drop (i + 1) picks) (sym same),
)
