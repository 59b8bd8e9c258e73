-- Marks at an address, between two searches.
use Rattle.std.proofs.Common.{◌≡◌, ℕ, ◌+◌, ◌-◌, ◌<◌, ◌≤◌, Bool, true, false, eqb, ltb, leb, List, [], ◌∷◌, ◌++◌, refl}
use Rattle.std.proofs.Common.{sym, ap, ◌∙◌, arith, suc, subst, length, take, drop, get_or, length-take, length-drop}
use Rattle.std.proofs.Common.{append-nil, ltb-true, leb-false}
use Rattle.std.specs.List.{All, AllWithin, filter}
use Rattle.std.proofs.lemmas.Bool.Decides.{nat_tests}
use Rattle.std.proofs.lemmas.List.{get_or-take, get_or-drop, take-append-drop}
use Rattle.std.proofs.lemmas.List.Elements.{filter-append}

-- ---- what a test leaves of a list

filter_none : {X : Type 0} (p : X → Bool) (xs : List X) → All (λ x. p x ≡ false) xs → filter p xs ≡ []
filter_none p [] h = refl
filter_none p (x ∷ xs) h = rw (h 0 x (omega arith)) (filter_none p xs (λ k d q. h (suc k) d (omega arith)))

filter_all : {X : Type 0} (p : X → Bool) (xs : List X) → All (λ x. p x ≡ true) xs → filter p xs ≡ xs
filter_all p [] h = refl
filter_all p (x ∷ xs) h =
    rw (h 0 x (omega arith)) (ap (λ l. x ∷ l) (filter_all p xs (λ k d q. h (suc k) d (omega arith))))

-- those between two places pass it, and no others do
pub filter_between : {X : Type 0} (p : X → Bool) (xs : List X) (first end : ℕ) → first ≤ end → end ≤ length xs
    → AllWithin (λ x. p x ≡ false) xs 0 first → AllWithin (λ x. p x ≡ true) xs first end
    → AllWithin (λ x. p x ≡ false) xs end (length xs) → take (end - first) (drop first xs) ≡ filter p xs
filter_between p xs first end ordered within below between above =
    let n : ℕ = end - first in
    let front : filter p (take first xs) ≡ [] =
    filter_none p (take first xs) (λ k d q.
    let inside : k < first = omega (arith, length-take first xs) in
    subst (λ x. p x ≡ false) (sym (get_or-take first xs k d inside)) (below k d (omega arith) inside)) in
    let middle : filter p (take n (drop first xs)) ≡ take n (drop first xs) =
    filter_all p (take n (drop first xs)) (λ k d q.
    let inside : k < n = omega (arith, length-take n (drop first xs)) in
    subst (λ x. p x ≡ true) (sym (get_or-take n (drop first xs) k d inside ∙ get_or-drop first xs k d))
    (between (first + k) d (omega arith) (omega arith))) in
    let back : filter p (drop n (drop first xs)) ≡ [] =
    filter_none p (drop n (drop first xs)) (λ k d q.
    let inside : first + (n + k) < length xs = omega (arith, length-drop n (drop first xs), length-drop first xs) in
    subst (λ x. p x ≡ false) (sym (get_or-drop n (drop first xs) k d ∙ get_or-drop first xs (n + k) d))
    (above (first + (n + k)) d (omega arith) inside)) in
    sym (
    ap (filter p) (sym (take-append-drop first xs)) ∙ filter-append p (take first xs) (drop first xs)
    ∙ ap (λ l. l ++ filter p (drop first xs)) front
    ∙ ap (filter p) (sym (take-append-drop n (drop first xs)))
    ∙ filter-append p (take n (drop first xs)) (drop n (drop first xs))
    ∙ ap (λ l. l ++ filter p (drop n (drop first xs))) middle
    ∙ ap (λ l. take n (drop first xs) ++ l) back
    ∙ append-nil (take n (drop first xs))
    )

-- ---- numbers below, at and above another

pub below_is_other : (a at : ℕ) → ltb a at ≡ true → eqb a at ≡ false
below_is_other a at h = grind (arith, nat_tests)

pub above_is_other : (a at : ℕ) → leb a at ≡ false → eqb a at ≡ false
above_is_other a at h = grind (arith, nat_tests)

pub between_is_same : (a at : ℕ) → ltb a at ≡ false → leb a at ≡ true → eqb a at ≡ true
between_is_same a at h k = grind (arith, nat_tests)

-- the places of two searches stand in order
pub places_in_order : {X : Type 0} (n : X → ℕ) (xs : List X) (at first end : ℕ) → first ≤ length xs
    → AllWithin (λ x. ltb (n x) at ≡ true) xs 0 first → AllWithin (λ x. leb (n x) at ≡ false) xs end (length xs)
    → first ≤ end
places_in_order n [] at first end within below above = omega arith
places_in_order n (x ∷ xs) at first end within below above =
    let apart : end < first → ⊥ = λ h.
    let low : n (get_or (x ∷ xs) end x) < at = ltb-true _ _ (below end x (omega arith) h) in
    let high : at < n (get_or (x ∷ xs) end x) = leb-false _ _ (above end x (omega arith) (omega arith)) in
    omega arith in
    omega (arith, apart)

-- the labels at an address are those between the two searches
pub between_places : {X : Type 0} (n : X → ℕ) (xs : List X) (at first end : ℕ) → first ≤ end → end ≤ length xs
    → AllWithin (λ x. ltb (n x) at ≡ true) xs 0 first → AllWithin (λ x. ltb (n x) at ≡ false) xs first (length xs)
    → AllWithin (λ x. leb (n x) at ≡ true) xs 0 end → AllWithin (λ x. leb (n x) at ≡ false) xs end (length xs)
    → take (end - first) (drop first xs) ≡ filter (λ x. eqb (n x) at) xs
between_places n xs at first end ordered within below from_first to_end above =
    filter_between (λ x. eqb (n x) at) xs first end ordered within
    (λ k d low high. below_is_other _ _ (below k d low high))
    (λ k d low high. between_is_same _ _ (from_first k d low (omega arith)) (to_end k d (omega arith) high))
    (λ k d low high. above_is_other _ _ (above k d low high))
