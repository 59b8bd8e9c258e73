-- The next core of a round.
use Rattle.std.proofs.Common.{◌≡◌, ℕ, List, [], ◌∷◌, ◌++◌, refl, sym, ap, ◌∙◌, subst, arith}
use Rattle.std.proofs.lemmas.List.Elements.{Contains-append_right}
use Rattle.std.proofs.lemmas.List.Sorted.{Contains-permutation, IsPermutation-sym}
use Rattle.std.specs.Option.{option_to_list}
use Rattle.std.specs.Prelude.{Contains, IsPermutation, Option, Some}
use Rattle.rand.specs.Shuffle.{shuffled}
use Rattle.rand_core.specs.Stream.{Stream}
use Rattle.tm_pick.specs.Choices.{IsOfRound, is_left_out, is_next, new_round}

-- the last one has not stopped
pub next_of : (going : List ℕ) (words : Stream) (before left : List ℕ) (core : ℕ) → before ≡ left ++ core ∷ [] →
    Contains going core → IsOfRound going words before core left words
next_of going words before left core is there =
    subst (λ (b : List ℕ). IsOfRound going words b core left words) (sym is) (is_next there)

-- or it has
pub without_last : (going : List ℕ) (words : Stream) (before left : List ℕ) (stopped : ℕ)
    → before ≡ left ++ stopped ∷ [] →
    ¬ (Contains going stopped)
    → (core : ℕ) (after : List ℕ) (behind : Stream) → IsOfRound going words left core after behind →
    IsOfRound going words before core after behind
without_last going words before left stopped is not_there core after behind of =
    subst (λ (b : List ℕ). IsOfRound going words b core after behind) (sym is) (is_left_out not_there of)

-- none is left
pub of_new : (going : List ℕ) (words : Stream) (before order left : List ℕ) (core : ℕ) (behind : Stream) → before ≡ [] →
    order ≡ left ++ core ∷ [] → ◌≡◌ {A = List ℕ × Stream} (order, behind) (shuffled going 0 words) →
    IsOfRound going words before core left behind
of_new going words before order left core behind none is drawn =
    subst (λ (b : List ℕ). IsOfRound going words b core left behind) (sym none)
    (new_round (subst (λ (o : List ℕ). ◌≡◌ {A = List ℕ × Stream} (o, behind) (shuffled going 0 words)) is drawn))

-- the last of an order
pub last_of : (left order : List ℕ) (last : Option ℕ) (core : ℕ) → order ≡ left ++ option_to_list last
    → last ≡ Some core →
    order ≡ left ++ core ∷ []
last_of left order last core is some = is ∙ ap (λ (o : Option ℕ). left ++ option_to_list o) some

pub last_there : (going order left : List ℕ) (core : ℕ) → IsPermutation going order → order ≡ left ++ core ∷ []
    → Contains going core
last_there going order left core same is =
    Contains-permutation order going core (IsPermutation-sym going order same)
    (subst (λ (o : List ℕ). Contains o core) (sym is)
    (Contains-append_right left (core ∷ []) core (0, omega arith, refl)))
