-- The cores that are left where one is taken out.
use Rattle.std.proofs.Common.{◌≡◌, sym, ap, ◌∙◌, ℕ, ◌+◌, ◌-◌, ◌<◌, List, length, get_or, subst, arith, ⊎_elim}
use Rattle.std.proofs.lemmas.Bool.{cases_lt}
use Rattle.std.proofs.lemmas.List.{get_or_default}
use Rattle.std.proofs.lemmas.List.Edits.{get_or-remove_above, get_or-remove_below, length-remove}
use Rattle.std.specs.Prelude.{◌≢◌, All, AllPairs, Contains, remove}

pub below_left : (cores : List ℕ) (i count : ℕ) → i < length cores → All (λ core. core < count) cores
    → All (λ core. core < count) (remove cores i)
below_left cores i count within all k d inside =
    let long = length-remove cores i within in
    ⊎_elim
    (λ below. rw (get_or-remove_below cores i d k below within) (all k d (omega arith)))
    (λ above. rw (get_or-remove_above cores i d k above within) (all (k + 1) d (omega arith)))
    (cases_lt k i)

-- what is left are others
pub left_others : (cores : List ℕ) (i core other : ℕ) → AllPairs (λ core other. core < other) cores → i < length cores
    → get_or cores i 0 ≡ core → Contains (remove cores i) other → Contains cores other × (other ≢ core)
left_others cores i core other sorted within is there =
    let k = there.0 in
    let long = length-remove cores i within in
    ⊎_elim
    (λ below.
    let at : get_or cores k other ≡ other = sym (get_or-remove_below cores i other k below within) ∙ there.2 in
    let inside : k < length cores = omega arith in
    let plain : get_or cores k 0 ≡ other = get_or_default cores k 0 other inside ∙ at in
    let less : get_or cores k 0 < get_or cores i 0 = sorted k i 0 below within in
    ((k, inside, at), λ same. omega (arith, less, plain, is, same)))
    (λ above.
    let at : get_or cores (k + 1) other ≡ other =
    sym (get_or-remove_above cores i other k above within) ∙ there.2 in
    let inside : k + 1 < length cores = omega (arith, long, there.1) in
    let plain : get_or cores (k + 1) 0 ≡ other = get_or_default cores (k + 1) 0 other inside ∙ at in
    let less : get_or cores i 0 < get_or cores (k + 1) 0 = sorted i (k + 1) 0 (omega arith) inside in
    ((k + 1, inside, at), λ same. omega (arith, less, plain, is, same)))
    (cases_lt k i)

-- the others are left
pub others_left : (cores : List ℕ) (i core other : ℕ) → i < length cores → get_or cores i 0 ≡ core
    → Contains cores other → other ≢ core → Contains (remove cores i) other
others_left cores i core other within is there differs =
    let k = there.0 in
    let long = length-remove cores i within in
    ⊎_elim
    (λ below. (k, omega (arith, long, there.1), get_or-remove_below cores i other k below within ∙ there.2))
    (λ above. ⊎_elim
    (λ past.
    let before : (k - 1) + 1 ≡ k = omega arith in (
      k - 1,
      omega (arith, long, there.1),
      get_or-remove_above cores i other (k - 1) (omega arith) within
          ∙ ap (λ (n : ℕ). get_or cores n other) before ∙ there.2,
    ))
    (λ not_past.
    let same : k ≡ i = omega arith in
    let plain : get_or cores k 0 ≡ other = get_or_default cores k 0 other there.1 ∙ there.2 in
    let at : get_or cores i 0 ≡ other = subst (λ (n : ℕ). get_or cores n 0 ≡ other) same plain in
    absurd (differs (sym at ∙ is)))
    (cases_lt i k))
    (cases_lt k i)

-- a core that is not among them
pub not_among : (cores : List ℕ) (core other : ℕ) → ((k : ℕ) → k < length cores → get_or cores k 0 ≡ core → ⊥)
    → Contains cores other → other ≢ core
not_among cores core other none there same =
    none there.0 there.1 (get_or_default cores there.0 0 other there.1 ∙ there.2 ∙ same)
