-- Lists of texts, and places in lists.
use Rattle.std.proofs.Common.{◌≡◌, ℕ, suc, ◌+◌, ◌<◌, ◌≤◌, Bool, List, [], ◌∷◌, Option, Some, None, refl, sym, ◌∙◌, ap}
use Rattle.std.proofs.Common.{take, length, map, inl, inr, nat_eq}
use Rattle.std.proofs.lemmas.Bool.{cases_Bool, cases_lt, cond_above, cond_below}
use Rattle.std.proofs.lemmas.List.{take-map}
use Rattle.std.specs.Prelude.{◌||◌, not, option_map, position, is_some}
use Rattle.std.specs.List.{list_any, position_or_len, prefix_len, starts_with, take_while}
use Rattle.elide_expect.specs.Patterns.{place_of, some_end}

pub any_map : {X Y : Type 0} (p : Y → Bool) (f : X → Y) (xs : List X)
    → list_any (λ x. p (f x)) xs ≡ list_any p (map f xs)
any_map p f [] = refl
any_map p f (x ∷ xs) = ap (λ t. p (f x) || t) (any_map p f xs)

prefix_map : {X Y : Type 0} (p : Y → Bool) (f : X → Y) (xs : List X)
    → prefix_len (λ x. p (f x)) xs ≡ prefix_len p (map f xs)
prefix_map p f [] = refl
prefix_map p f (x ∷ xs) = elim (cases_Bool (p (f x))) [
  | inl t ↦ rw t (ap (λ n. 1 + n) (prefix_map p f xs))
  | inr e ↦ rw e refl
]

pub position_some : {X : Type 0} (p : X → Bool) (xs : List X) (k : ℕ) → position p xs ≡ Some k
    → position_or_len p xs ≡ k
position_some p xs k h = elim (cases_lt (position_or_len p xs) (length xs)) [
  | inl lt ↦ let e : Some (position_or_len p xs) ≡ Some k
      = cond_below (position_or_len p xs) (length xs) (Some (position_or_len p xs)) None lt ∙ h in cc
  | inr ge ↦ let e : None ≡ Some k
      = cond_above (position_or_len p xs) (length xs) (Some (position_or_len p xs)) None None ge refl ∙ h in cc
]

pub position_within : {X : Type 0} (p : X → Bool) (xs : List X) (k : ℕ) → position p xs ≡ Some k
    → position_or_len p xs < length xs
position_within p xs k h = elim (cases_lt (position_or_len p xs) (length xs)) [
  | inl lt ↦ lt
  | inr ge ↦ let e : None ≡ Some k
      = cond_above (position_or_len p xs) (length xs) (Some (position_or_len p xs)) None None ge refl ∙ h in cc
]

pub position_none : {X : Type 0} (p : X → Bool) (xs : List X) → position p xs ≡ None → length xs ≤ position_or_len p xs
position_none p xs h = elim (cases_lt (position_or_len p xs) (length xs)) [
  | inl lt ↦ let e : Some (position_or_len p xs) ≡ None
      = cond_below (position_or_len p xs) (length xs) (Some (position_or_len p xs)) None lt ∙ h in cc
  | inr ge ↦ ge
]

-- the elements in front of the first that passes
pub front_map : {X Y : Type 0} (p : Y → Bool) (f : X → Y) (xs : List X)
    → map f (take (position_or_len (λ x. p (f x)) xs) xs) ≡ take_while (λ y. not (p y)) (map f xs)
front_map p f xs =
    sym (take-map f (position_or_len (λ x. p (f x)) xs) xs)
    ∙ ap (λ n. take n (map f xs)) (prefix_map (λ y. not (p y)) f xs)

-- a text that stands somewhere is the front of some end
some_suc : (place : Option ℕ) → is_some (option_map (λ k. suc k) place) ≡ is_some place
some_suc None = refl
some_suc (Some k) = refl

pub place_end : (p l : List ℕ) → is_some (place_of p l) ≡ some_end (λ rest. starts_with nat_eq rest p) l
place_end p [] = elim (cases_Bool (starts_with nat_eq [] p)) [ inl t ↦ rw t refl | inr f ↦ rw f refl ]
place_end p (b ∷ bs) = elim (cases_Bool (starts_with nat_eq (b ∷ bs) p)) [
  | inl t ↦ rw t refl
  | inr f ↦ rw f (some_suc (place_of p bs) ∙ place_end p bs)
]
