-- Where a line stands among the lines of a set.
use Rattle.std.proofs.Common.{◌≡◌, ℕ, ◌<◌, true, eqb, List, [], ◌∷◌, ◌++◌, length, get_or, sym, ap, ◌∙◌, arith, ◌||◌}
use Rattle.std.proofs.Common.{Some, None}
use Rattle.std.proofs.lemmas.Bool.{eq-eqb, ne_eqb, eqb-true}
use Rattle.std.proofs.lemmas.Grind.{common_steps}
use Rattle.std.proofs.lemmas.List.Quantifiers.{position-Some}
use Rattle.std.proofs.lemmas.List.Sums.{position_or_len_is}
use Rattle.std.proofs.lemmas.List.Folds.{position_or_len_push}
use Rattle.std.specs.List.{position_or_len}
use Rattle.std.specs.Option.{is_some}
use Rattle.std.specs.Ordering.{nat_cmp, eq_by_cmp}
use Rattle.std.specs.Cmp.{unsigned_tied}
use Rattle.std.specs.FinSet as set
use Rattle.tm_sets.specs.Content.{AreSlots}
use Rattle.tm_sets.specs.LineSet.{BoundedLines, lines_of, place_of}
use Rattle.tm_sets.specs.Plain.{AreWithin, line_set_at, plain_content}
use Rattle.tm_sets.proofs.Lists.{contains_cons}

pub place_none : (xs : List ℕ) (l : ℕ) → ((i : ℕ) → i < length xs → get_or xs i 0 ≡ l → ⊥) → place_of xs l ≡ None
place_none xs l h =
    let none : position_or_len (λ x. eqb x l) xs ≡ length xs =
    position_or_len_is (λ x. eqb x l) xs (length xs) 0 (omega arith) (λ k b. ne_eqb (get_or xs k 0) l (h k b))
    (λ b. absurd (omega arith)) in
    grind (arith, common_steps)

pub place_found : (xs : List ℕ) (k l : ℕ) → k < length xs → get_or xs k 0 ≡ l
    → ((i : ℕ) → i < k → get_or xs i 0 ≡ l → ⊥)
    → place_of xs l ≡ Some k
place_found xs k l b e h =
    let found : position_or_len (λ x. eqb x l) xs ≡ k =
    position_or_len_is (λ x. eqb x l) xs k 0 (omega arith) (λ i c. ne_eqb (get_or xs i 0) l (h i c))
    (λ _. eq-eqb (get_or xs k 0) l e) in
    grind (arith, common_steps)

-- a line that has a place stands there
pub record StandsAt (xs : List ℕ) (l k : ℕ) : Type 0 where
  pub below : k < length xs
  pub is : get_or xs k 0 ≡ l

pub place_in : (xs : List ℕ) (l k : ℕ) → place_of xs l ≡ Some k → StandsAt xs l k
place_in xs l k e =
    let s = position-Some (λ x. eqb x l) xs k 0 e in
    record { below = s.0; is = eqb-true (get_or xs k 0) l s.1 }

-- a place that a line has stays when another line comes
pub place_stays : (xs : List ℕ) (l q : ℕ) → is_some (place_of xs q) ≡ true → place_of (xs ++ l ∷ []) q ≡ place_of xs q
place_stays xs l q t =
    let push = position_or_len_push (λ x. eqb x q) xs l in
    grind (arith, common_steps)

-- a line has a place exactly where it is in the set
pub place_known : (xs : List ℕ) (l : ℕ) → is_some (place_of xs l) ≡ set.contains (lines_of xs) l
place_known [] l = sym (set.contains-empty nat_cmp l)
place_known (x ∷ xs) l =
    step x xs l ∙ ap (λ t. t || is_some (place_of xs l)) (turned x l ∙ sym (unsigned_tied l x))
    ∙ ap (λ t. eq_by_cmp nat_cmp l x || t) (place_known xs l) ∙ sym (contains_cons x l xs)
  where
    step : (x : ℕ) (xs : List ℕ) (l : ℕ) → is_some (place_of (x ∷ xs) l) ≡ (eqb x l || is_some (place_of xs l))
    step x xs l = grind (arith, common_steps)

    turned : (a b : ℕ) → eqb a b ≡ eqb b a
    turned a b = grind (arith, common_steps)

-- places among the lines that cores have written are slots of them
pub plain_are_slots : (reads writes : List BoundedLines) (line_count read_lines write_lines : ℕ)
    → length writes ≡ length reads
    → AreWithin writes write_lines → AreSlots (plain_content reads writes line_count read_lines write_lines)
plain_are_slots reads writes line_count read_lines write_lines same within = record {
  there = λ core line b. place_known (line_set_at writes core).order line;
  below = λ core line slot b e.
      omega (arith, within core (omega arith), (place_in (line_set_at writes core).order line slot e).below);
  apart = λ core line other slot b e f.
      sym (place_in (line_set_at writes core).order line slot e).is
      ∙ (place_in (line_set_at writes core).order other slot f).is;
}
