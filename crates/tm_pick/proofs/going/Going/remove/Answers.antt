use Rattle.std.proofs.Common.{◌≡◌, ℕ, ◌<◌, List, get_or, length, subst}
use Rattle.std.proofs.lemmas.List.Quantifiers.{all_pairs_remove}
use Rattle.tm_pick.proofs.TakenOut.{below_left, left_others, not_among, others_left}
use Rattle.tm_pick.proofs.going.Going.remove.Goals as goal

pub invariant_of-self : goal.invariant_of-self
invariant_of-self c =
    let within =
    subst (λ (xs : List ℕ). c.in-Some.index < length xs) c.as_slice.ensures.value c.in-Some.ensures.within in
    rw c.remove.ensures.items (all_pairs_remove (λ (a b : ℕ). a < b) _ c.in-Some.index within c.self.invariant)

pub returns-in-Some-clause-below : goal.returns-in-Some-clause-below
returns-in-Some-clause-below c =
    let within =
    subst (λ (xs : List ℕ). c.in-Some.index < length xs) c.as_slice.ensures.value c.in-Some.ensures.within in
    rw (c.remove.ensures.items, ← c.self.view_is) (λ count all. below_left _ c.in-Some.index count within all)

pub returns-in-Some-clause-others : goal.returns-in-Some-clause-others
returns-in-Some-clause-others c =
    let within =
    subst (λ (xs : List ℕ). c.in-Some.index < length xs) c.as_slice.ensures.value c.in-Some.ensures.within in
    let there =
    subst (λ (xs : List ℕ). get_or xs c.in-Some.index 0 ≡ c.args.core) c.as_slice.ensures.value
    c.in-Some.ensures.there in
    rw (c.remove.ensures.items, ← c.self.view_is) (λ other. (
      left_others c.self.inside.cores.items c.in-Some.index c.args.core other c.self.invariant within there,
      λ both. others_left c.self.inside.cores.items c.in-Some.index c.args.core other within there both.0 both.1,
    ))

pub returns-in_default-clause-others : goal.returns-in_default-clause-others
returns-in_default-clause-others c =
    let none =
    subst (λ (xs : List ℕ). (k : ℕ) → k < length xs → get_or xs k 0 ≡ c.args.core → ⊥) c.as_slice.ensures.value
    c.in_default.ensures.none in
    rw (← c.self.view_is) (λ other. (
      λ there. (there, not_among c.self.inside.cores.items c.args.core other none there),
      λ both. both.0,
    ))
