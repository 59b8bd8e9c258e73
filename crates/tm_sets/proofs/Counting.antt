-- Numbers that pass a test, counted.
use Rattle.std.proofs.Common.{◌≡◌, ℕ, zero, suc, ◌+◌, ◌<◌, ◌≤◌, Bool, true, false, cond, eqb, not, ◌&&◌, refl, sym, ap}
use Rattle.std.proofs.Common.{◌∙◌, ⊎_elim, ◌⊎◌, inl, inr, arith}
use Rattle.std.proofs.lemmas.Bool.{cases_eq, eq-eqb, ne_eqb}
use Rattle.tm_sets.specs.Count.{count_below}

-- a test fails or passes
pub tested : (b : Bool) → (b ≡ true) ⊎ (b ≡ false)
tested true = inl refl
tested false = inr refl

pub never : {A : Type 0} (b : Bool) → b ≡ true → b ≡ false → A
never b t f = let e : true ≡ false = sym t ∙ f in cc

pub count_step : (p : ℕ → Bool) (n : ℕ) → count_below p (suc n) ≡ count_below p n + cond (p n) 1 0
unfolding count_below
count_step p n = refl

pub count_zero : (p : ℕ → Bool) → count_below p 0 ≡ 0
unfolding count_below
count_zero p = refl

one_or_none : (b : Bool) → cond {A = ℕ} b 1 0 ≤ 1
one_or_none true = omega arith
one_or_none false = omega arith

pub count_le : (p : ℕ → Bool) (n : ℕ) → count_below p n ≤ n
count_le p zero = let e = count_zero p in omega arith
count_le p (suc n) = let e = count_step p n in let l = one_or_none (p n) in let i = count_le p n in omega arith

pub count_same : (p q : ℕ → Bool) (n : ℕ) → ((i : ℕ) → i < n → p i ≡ q i) → count_below p n ≡ count_below q n
count_same p q zero h = count_zero p ∙ sym (count_zero q)
count_same p q (suc n) h =
    let a = count_step p n in
    let b = count_step q n in
    let c : cond {A = ℕ} (p n) 1 0 ≡ cond {A = ℕ} (q n) 1 0 = ap (λ t. cond {A = ℕ} t 1 0) (h n (omega arith)) in
    let i = count_same p q n (λ i l. h i (omega arith)) in
    omega arith

pub count_none : (p : ℕ → Bool) (n : ℕ) → ((i : ℕ) → i < n → p i ≡ false) → count_below p n ≡ 0
count_none p zero h = count_zero p
count_none p (suc n) h =
    let a = count_step p n in
    let c : cond {A = ℕ} (p n) 1 0 ≡ 0 = ap (λ t. cond {A = ℕ} t 1 0) (h n (omega arith)) in
    let i = count_none p n (λ i l. h i (omega arith)) in
    omega arith

pub count_all : (p : ℕ → Bool) (n : ℕ) → ((i : ℕ) → i < n → p i ≡ true) → count_below p n ≡ n
count_all p zero h = count_zero p
count_all p (suc n) h =
    let a = count_step p n in
    let c : cond {A = ℕ} (p n) 1 0 ≡ 1 = ap (λ t. cond {A = ℕ} t 1 0) (h n (omega arith)) in
    let i = count_all p n (λ i l. h i (omega arith)) in
    omega arith

-- q passes one number fewer than p
pub count_less : (p q : ℕ → Bool) (n k : ℕ) → k < n → p k ≡ true → q k ≡ false
    → ((i : ℕ) → i < n → (i ≡ k → ⊥) → p i ≡ q i) → count_below p n ≡ count_below q n + 1
count_less p q zero k b t f h = absurd (omega arith)
count_less p q (suc n) k b t f h =
    let x = count_step p n in
    let y = count_step q n in
    ⊎_elim
    (λ (e : n ≡ k).
    let u : cond {A = ℕ} (p n) 1 0 ≡ 1 = ap (λ s. cond {A = ℕ} s 1 0) (ap p e ∙ t) in
    let v : cond {A = ℕ} (q n) 1 0 ≡ 0 = ap (λ s. cond {A = ℕ} s 1 0) (ap q e ∙ f) in
    let i = count_same p q n (λ i l. h i (omega arith) (λ m. omega arith)) in
    omega arith)
    (λ (e : n ≡ k → ⊥).
    let c : cond {A = ℕ} (p n) 1 0 ≡ cond {A = ℕ} (q n) 1 0 = ap (λ s. cond {A = ℕ} s 1 0) (h n (omega arith) e) in
    let i = count_less p q n k (omega arith) t f (λ i l. h i (omega arith)) in
    omega arith)
    (cases_eq n k)

pub both : (a b : Bool) → (a && b) ≡ true → (a ≡ true) × (b ≡ true)
both true b e = (refl, e)
both false b e = absurd (never false e refl)

pub as_one : (a b : Bool) → a ≡ true → b ≡ true → (a && b) ≡ true
as_one a b x y = ap (λ t. t && b) x ∙ y

pub fails : (b : Bool) → (b ≡ true → ⊥) → b ≡ false
fails true h = absurd (h refl)
fails false h = refl

pub same_test : (a b : Bool) → (a ≡ true → b ≡ true) → (b ≡ true → a ≡ true) → a ≡ b
same_test true b f g = sym (f refl)
same_test false true f g = g refl
same_test false false f g = refl

pub equal : (a b : ℕ) → eqb a b ≡ true → a ≡ b
equal a b t = ⊎_elim (λ (e : a ≡ b). e) (λ (e : a ≡ b → ⊥). never (eqb a b) t (ne_eqb a b e)) (cases_eq a b)

-- a number that q passes is taken from the test
abbrev pub but : (ℕ → Bool) → ℕ → ℕ → Bool
but q k i = q i && not (eqb i k)

-- the numbers that pass p are led to those that pass q, each to one of its own, and all of these are met
pub count_matched : (m : ℕ) (n : ℕ) (p q : ℕ → Bool) (f : ℕ → ℕ)
    → ((i : ℕ) → i < n → p i ≡ true → (f i < m) × (q (f i) ≡ true))
    → ((i j : ℕ) → i < n → j < n → p i ≡ true → p j ≡ true → f i ≡ f j → i ≡ j)
    → ((c : ℕ) → c < m → q c ≡ true → (i : ℕ) × (i < n) × (p i ≡ true) × (f i ≡ c))
    → count_below p n ≡ count_below q m
count_matched m zero p q f into apart met =
    count_zero p ∙ sym (count_none q m (λ c l. fails (q c) (λ t. let w = met c l t in let z = w.1 in omega arith)))
count_matched m (suc n) p q f into apart met =
    let step = count_step p n in
    ⊎_elim
    (λ (t : p n ≡ true).
    let c : cond {A = ℕ} (p n) 1 0 ≡ 1 = ap (λ s. cond {A = ℕ} s 1 0) t in
    let w = into n (omega arith) t in
    let less : count_below q m ≡ count_below (but q (f n)) m + 1 = count_less q (but q (f n)) m (f n) w.0 w.1
    (ap (λ s. q (f n) && not s) (eq-eqb (f n) (f n) refl) ∙ and_false (q (f n)))
    (λ i l e. sym (ap (λ s. q i && not s) (ne_eqb i (f n) e) ∙ and_true (q i))) in
    let i = count_matched m n p (but q (f n)) f
    (λ i l s. let v = into i (omega arith) s in (
      v.0,
      as_one (q (f i)) (not (eqb (f i) (f n))) v.1
          (ap not (ne_eqb (f i) (f n) (λ e. let z = apart i n (omega arith) (omega arith) s t e in omega arith))),
    ))
    (λ i j l k. apart i j (omega arith) (omega arith))
    (λ d l s.
    let r = both (q d) (not (eqb d (f n))) s in
    let v = met d l r.0 in
    let lv = v.1 in
    let other : v.0 ≡ n → ⊥ = λ e. never (not (eqb d (f n))) r.1 (ap not (eq-eqb d (f n) (sym v.3 ∙ ap f e))) in
    (v.0, omega arith, v.2, v.3)) in
    omega arith)
    (λ (t : p n ≡ false).
    let c : cond {A = ℕ} (p n) 1 0 ≡ 0 = ap (λ s. cond {A = ℕ} s 1 0) t in
    let i = count_matched m n p q f
    (λ i l. into i (omega arith))
    (λ i j l k. apart i j (omega arith) (omega arith))
    (λ d l s.
    let v = met d l s in
    let lv = v.1 in
    let other : v.0 ≡ n → ⊥ = λ e. never (p n) (ap p (sym e) ∙ v.2) t in
    (v.0, omega arith, v.2, v.3)) in
    omega arith)
    (tested (p n))
  where
    and_false : (b : Bool) → (b && false) ≡ false
    and_false true = refl
    and_false false = refl

    and_true : (b : Bool) → (b && true) ≡ b
    and_true true = refl
    and_true false = refl
