-- A row that is filled one by one.
use Rattle.std.proofs.Common.{◌≡◌, ℕ, zero, suc, ◌<◌, ◌≤◌, ◌+◌, List, length, get_or, set, replicate, refl, sym, ◌∙◌}
use Rattle.std.proofs.Common.{arith, subst}
use Rattle.std.proofs.lemmas.List.{get_or-set_same, get_or-set_other}
use Rattle.tm_why.specs.Types.{Watched}
use Rattle.tm_why.specs.Watched.{outside}
use borrow.Author.Count.{below_more}

pub default_of : {A : Type 0} → (n i : ℕ) (a : A) → get_or (replicate n a) i a ≡ a
default_of zero i a = refl
default_of (suc n) zero a = refl
default_of (suc n) (suc i) a = default_of n i a

-- what stands behind the place that is filled
pub rest_next : {A : Type 0} → (rows first : List A) (place : ℕ) (row default : A) →
    ((k : ℕ) → place ≤ k → get_or rows k default ≡ get_or first k default) →
    (k : ℕ) → place + 1 ≤ k → get_or (set rows place row) k default ≡ get_or first k default
rest_next rows first place row default rest k behind =
    let other : k ≡ place → ⊥ = λ same. omega arith in
    let after : place ≤ k = omega arith in
    get_or-set_other rows place k row default other ∙ rest k after

-- ---- rows

pub passed_next : (f : ℕ → Watched → Watched) (rows first : List Watched) (core : ℕ) (row : Watched) →
    core < length rows →
    ((k : ℕ) → k < core → get_or rows k outside ≡ f k (get_or first k outside)) →
    row ≡ f core (get_or first core outside) →
    (k : ℕ) → k < core + 1 → get_or (set rows core row) k outside ≡ f k (get_or first k outside)
passed_next f rows first core row h passed here =
    below_more (λ (k : ℕ). get_or (set rows core row) k outside ≡ f k (get_or first k outside)) core
    (λ k less.
    let other : k ≡ core → ⊥ = λ same. omega arith in
    get_or-set_other rows core k row outside other ∙ passed k less)
    (get_or-set_same rows core row outside h ∙ here)

-- ---- what each place is promised

pub each_next : {A : Type 0} → (P : ℕ → A → Type 0) → (rows : List A) (place : ℕ) (row default : A) →
    place < length rows → ((k : ℕ) → k < place → P k (get_or rows k default)) → P place row →
    (k : ℕ) → k < place + 1 → P k (get_or (set rows place row) k default)
each_next P rows place row default within passed here =
    below_more (λ (k : ℕ). P k (get_or (set rows place row) k default)) place
    (λ k less.
    let other : k ≡ place → ⊥ = λ same. omega arith in
    subst (P k) (sym (get_or-set_other rows place k row default other)) (passed k less))
    (subst (P place) (sym (get_or-set_same rows place row default within)) here)
