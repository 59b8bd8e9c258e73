-- Texts in two parts.
use Rattle.std.proofs.Common.{◌≡◌, ℕ, ◌<◌, ◌≤◌, Bool, true, false, List, [], ◌∷◌, ◌++◌, refl, sym, ◌∙◌, ap, length}
use Rattle.std.proofs.Common.{arith, take, drop, append_assoc}
use Rattle.std.specs.Prelude.{◌&&◌, nat_eq}
use Rattle.std.specs.Str.{bytes_eq}
use Rattle.std.proofs.lemmas.Grind.{common_steps}
use Rattle.std.proofs.lemmas.Cmp.{nat_list_eq_equiv}

and_assoc : (a b c : Bool) → (a && (b && c)) ≡ ((a && b) && c)
and_assoc true b c = refl
and_assoc false b c = refl

-- first parts of one length
pub both_parts : (a b c d : List ℕ) → length a ≡ length b → bytes_eq (a ++ c) (b ++ d) ≡ (bytes_eq a b && bytes_eq c d)
both_parts [] [] c d e = refl
both_parts [] (y ∷ b) c d e = absurd (omega (arith, e))
both_parts (x ∷ a) [] c d e = absurd (omega (arith, e))
both_parts (x ∷ a) (y ∷ b) c d e =
    let less : length a ≡ length b = omega (arith, e) in
    ap (λ t. nat_eq x y && t) (both_parts a b c d less) ∙ and_assoc (nat_eq x y) (bytes_eq a b) (bytes_eq c d)

-- a text that is shorter than a first part
pub joined_short : (front back text : List ℕ) → length text < length front → bytes_eq (front ++ back) text ≡ false
joined_short [] back text h = absurd (omega (arith, h))
joined_short (x ∷ front) back [] h = refl
joined_short (x ∷ front) back (y ∷ text) h =
    let less : length text < length front = omega (arith, h) in
    ap (λ t. nat_eq x y && t) (joined_short front back text less) ∙ never (nat_eq x y)
  where
    never : (a : Bool) → (a && false) ≡ false
    never true = refl
    never false = refl

parts_of : (n : ℕ) (t : List ℕ) → take n t ++ drop n t ≡ t
parts_of n t = grind (arith, common_steps)

first_long : (n : ℕ) (t : List ℕ) → n ≤ length t → length (take n t) ≡ n
first_long n t h = grind (arith, common_steps)

cut : (f b t : List ℕ) → length f ≤ length t
    → bytes_eq (f ++ b) t ≡ (bytes_eq f (take (length f) t) && bytes_eq b (drop (length f) t))
cut f b t h = ap (bytes_eq (f ++ b)) (sym (parts_of (length f) t))
    ∙ both_parts f (take (length f) t) b (drop (length f) t) (sym (first_long (length f) t h))

-- a text whose first part is that, and one whose first part is another
pub joined_is : (f b t : List ℕ) → length f ≤ length t → bytes_eq f (take (length f) t) ≡ true
    → bytes_eq (f ++ b) t ≡ bytes_eq b (drop (length f) t)
joined_is f b t h e = cut f b t h ∙ ap (λ x. x && bytes_eq b (drop (length f) t)) e

pub joined_apart : (f b t : List ℕ) → length f ≤ length t → bytes_eq f (take (length f) t) ≡ false
    → bytes_eq (f ++ b) t ≡ false
joined_apart f b t h e = cut f b t h ∙ ap (λ x. x && bytes_eq b (drop (length f) t)) e

-- the same where both texts have two parts
cut_both : (f b g h : List ℕ) → length f ≤ length g
    → bytes_eq (f ++ b) (g ++ h) ≡ (bytes_eq f (take (length f) g) && bytes_eq b (drop (length f) g ++ h))
cut_both f b g h l =
    ap (λ t. bytes_eq (f ++ b) (t ++ h)) (sym (parts_of (length f) g))
    ∙ ap (bytes_eq (f ++ b)) (append_assoc (take (length f) g) (drop (length f) g) h)
    ∙ both_parts f (take (length f) g) b (drop (length f) g ++ h) (sym (first_long (length f) g l))

swapped : (a b : List ℕ) → bytes_eq a b ≡ bytes_eq b a
swapped = nat_list_eq_equiv.symm

pub parted : (f b g h : List ℕ) → length f ≤ length g → bytes_eq f (take (length f) g) ≡ true
    → bytes_eq (f ++ b) (g ++ h) ≡ bytes_eq (drop (length f) g ++ h) b
parted f b g h l e =
    cut_both f b g h l ∙ ap (λ x. x && bytes_eq b (drop (length f) g ++ h)) e ∙ swapped b (drop (length f) g ++ h)

pub parted_apart : (f b g h : List ℕ) → length f ≤ length g → bytes_eq f (take (length f) g) ≡ false
    → bytes_eq (f ++ b) (g ++ h) ≡ false
parted_apart f b g h l e = cut_both f b g h l ∙ ap (λ x. x && bytes_eq b (drop (length f) g ++ h)) e

-- a name made of its scope and its own
pub ruleset joins = (joined_is, joined_apart, joined_short)
