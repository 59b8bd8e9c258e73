-- A name has one last part.
use Rattle.std.proofs.Common.{◌≡◌, ℕ, ◌<◌, Bool, true, false, not, List, [], ◌∷◌, ◌++◌, refl, sym, ◌∙◌, ap, length}
use Rattle.std.proofs.Common.{arith}
use Rattle.std.specs.Prelude.{◌&&◌, ◌||◌, ◌==◌}
use Rattle.ia_names.specs.Tries.{has_dot, is_empty, is_part}

both : (a b : Bool) → (a && b) ≡ true → (a ≡ true) × (b ≡ true)
both true b e = (refl, e)
both false b e = absurd cc

pub either : (a b : Bool) → (a || b) ≡ false → (a ≡ false) × (b ≡ false)
either false b e = (refl, e)
either true b e = absurd cc

negated : (a : Bool) → not a ≡ true → a ≡ false
negated true e = absurd cc
negated false e = refl

no_dot_behind : (xs ys : List ℕ) → has_dot (xs ++ ys) ≡ false → has_dot ys ≡ false
no_dot_behind [] ys e = e
no_dot_behind (x ∷ xs) ys e = no_dot_behind xs ys (either (x == 46) (has_dot (xs ++ ys)) e).1

-- behind a name with letters a part begins with a dot
dotted : (x : ℕ) (a : List ℕ) (q : List ℕ) → is_part (x ∷ a) q ≡ true → (b : List ℕ) → is_part b q ≡ true
dotted x a [] e b = e
dotted x a (y ∷ q) e b = by (y == 46) refl
  where
    parts : (not (has_dot q) ≡ true) × (((y == 46) || false) ≡ true)
    parts = both (not (has_dot q)) ((y == 46) || false) e

    by : (t : Bool) → (y == 46) ≡ t → (not (has_dot q) && ((y == 46) || is_empty b)) ≡ true
    by true is = rw (parts.0, is) refl
    by false is =
        let wrong : false ≡ true = sym (ap (λ t. t || false) is) ∙ parts.1 in
        absurd cc

-- a part with a dot within is none
within : (y : ℕ) (b q : List ℕ) (x : ℕ) (p : List ℕ) → is_part [] (x ∷ p) ≡ true → is_part (y ∷ b) q ≡ true
    → p ≡ b ++ q → ⊥
within y b [] x p e f is = absurd cc
within y b (z ∷ q) x p e f is =
    let plain : has_dot p ≡ false = negated (has_dot p) (both (not (has_dot p)) ((x == 46) || true) e).0 in
    let behind : has_dot (z ∷ q) ≡ false = no_dot_behind b (z ∷ q) (sym (ap has_dot is) ∙ plain) in
    let letter : (z == 46) ≡ false = (either (z == 46) (has_dot q) behind).0 in
    let dot : ((z == 46) || false) ≡ true = (both (not (has_dot q)) ((z == 46) || false) f).1 in
    let wrong : false ≡ true = sym (ap (λ t. t || false) letter) ∙ dot in
    absurd cc

abbrev head_of : ℕ → List ℕ → ℕ
head_of d [] = d
head_of d (x ∷ xs) = x

abbrev tail_of : List ℕ → List ℕ
tail_of [] = []
tail_of (x ∷ xs) = xs

-- two names that are one have one last part, behind one name
pub last_part : (a b p q : List ℕ) → is_part a p ≡ true → is_part b q ≡ true → a ++ p ≡ b ++ q → (a ≡ b) × (p ≡ q)
last_part [] [] p q e f is = (refl, is)
last_part [] (y ∷ b) [] q e f is = absurd cc
last_part [] (y ∷ b) (x ∷ p) q e f is = absurd (within y b q x p e f (ap tail_of is))
last_part (x ∷ a) [] p [] e f is = absurd cc
last_part (x ∷ a) [] p (y ∷ q) e f is = absurd (within x a p y q f e (sym (ap tail_of is)))
last_part (x ∷ a) (y ∷ b) p q e f is =
    let more = last_part a b p q (dotted x a p e a) (dotted y b q f b) (ap tail_of is) in
    (ap (λ h. h ∷ a) (ap (head_of 0) is) ∙ ap (λ t. y ∷ t) more.0, more.1)

-- a part has letters
pub has_letters : (a p : List ℕ) → is_part a p ≡ true → 0 < length p
has_letters a [] e = absurd cc
has_letters a (x ∷ p) e = omega arith
