-- The row of registers that changed.
use Rattle.std.proofs.Common.{◌≡◌, ℕ, zero, suc, ◌<◌, ◌+◌, List, [], ◌∷◌, length, get_or, set, replicate, Option, None}
use Rattle.std.proofs.Common.{ap, ◌∙◌, arith, unwrap_or, refl}
use Rattle.std.proofs.lemmas.List.{get_or-set_same, get_or-set_other}
use Rattle.tm_page.specs.Applied.{patched_list}
use borrow.Author.Count.{below_more}

-- a row of one value has that value
pub default_of : {A : Type 0} → (n i : ℕ) (a : A) → get_or (replicate n a) i a ≡ a
default_of zero i a = refl
default_of (suc n) zero a = refl
default_of (suc n) (suc i) a = default_of n i a

pub filled_next : (row : List (Option ℕ)) (old new : List ℕ) (place : ℕ) (value : Option ℕ) → place < length row →
    ((k : ℕ) → k < place → unwrap_or (get_or row k None) (get_or old k 0) ≡ get_or new k 0) →
    unwrap_or value (get_or old place 0) ≡ get_or new place 0 →
    (k : ℕ) → k < place + 1 → unwrap_or (get_or (set row place value) k None) (get_or old k 0) ≡ get_or new k 0
filled_next row old new place value within below here =
    below_more (λ (k : ℕ). unwrap_or (get_or (set row place value) k None) (get_or old k 0) ≡ get_or new k 0) place
    (λ k less.
    let other : k ≡ place → ⊥ = λ same. omega arith in
    ap (λ o. unwrap_or o (get_or old k 0)) (get_or-set_other row place k value None other) ∙ below k less)
    (ap (λ o. unwrap_or o (get_or old place 0)) (get_or-set_same row place value None within) ∙ here)

pub all_patched : (row : List (Option ℕ)) (old new : List ℕ) → length old ≡ length row → length new ≡ length row →
    ((k : ℕ) → k < length row → unwrap_or (get_or row k None) (get_or old k 0) ≡ get_or new k 0) →
    patched_list row old ≡ new
all_patched [] [] [] a b h = refl
all_patched [] (o ∷ old) new a b h = cc
all_patched [] [] (n ∷ new) a b h = cc
all_patched (r ∷ row) [] new a b h = cc
all_patched (r ∷ row) (o ∷ old) [] a b h = cc
all_patched (r ∷ row) (o ∷ old) (n ∷ new) a b h =
    let first : unwrap_or r o ≡ n = h 0 (omega arith) in
    let others : patched_list row old ≡ new =
    all_patched row old new (omega arith) (omega arith) (λ k less. h (suc k) (omega arith)) in
    λ i. first i ∷ others i
