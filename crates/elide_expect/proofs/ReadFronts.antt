-- The fronts of lists, word by word.
use Rattle.std.proofs.Common.{◌≡◌, ℕ, Bool, true, false, List, [], ◌∷◌, ◌++◌, Option, Some, None, refl, sym, ◌∙◌, ap}
use Rattle.std.proofs.Common.{map, append_assoc, inl, inr, nat_eq}
use Rattle.std.proofs.lemmas.Bool.{cases_Bool}
use Rattle.std.proofs.lemmas.List.{append-nil}
use Rattle.std.specs.Prelude.{codes, option_map}
use Rattle.std.specs.Cmp.Lexicographic.{pointwise}
use Rattle.elide_expect.specs.Outcomes.{front_of, lists_of, onto_front, onto_lists, value_in}

abbrev is_some_list : Option (List (List ℕ)) → Bool
is_some_list None = true
is_some_list (Some []) = false
is_some_list (Some (l ∷ ls)) = true

behind_end : (lists : Option (List (List ℕ))) → is_some_list (option_map (λ ls. [] ∷ ls) lists) ≡ true
behind_end None = refl
behind_end (Some ls) = refl

behind_value : (value : Option ℕ) (lists : Option (List (List ℕ))) → is_some_list (onto_lists value lists) ≡ true
behind_value None lists = refl
behind_value (Some v) None = refl
behind_value (Some v) (Some []) = refl
behind_value (Some v) (Some (l ∷ ls)) = refl

some_list : (words : List (List ℕ)) → is_some_list (lists_of words) ≡ true
some_list [] = refl
some_list (w ∷ ws) = elim (cases_Bool (pointwise nat_eq w (codes "|"))) [
  | inl t ↦ rw t (behind_end (lists_of ws))
  | inr f ↦ rw f (behind_value (value_in w) (lists_of ws))
]

begun : (lists : Option (List (List ℕ))) → is_some_list lists ≡ true
    → option_map (λ ls. [] ++ onto_front [] ls) lists ≡ option_map (map front_of) lists
begun None h = refl
begun (Some []) h = cc
begun (Some (l ∷ ls)) h = refl

pub front_init : (words : List (List ℕ))
    → option_map (λ ls. [] ++ onto_front [] ls) (lists_of words) ≡ option_map (map front_of) (lists_of words)
front_init words = begun (lists_of words) (some_list words)

ended : (before : List (List ℕ)) (front : List ℕ) (lists : Option (List (List ℕ))) → is_some_list lists ≡ true
    → option_map (λ ls. (before ++ front ∷ []) ++ onto_front [] ls) lists
    ≡ option_map (λ ls. before ++ onto_front front ls) (option_map (λ ls. [] ∷ ls) lists)
ended before front None h = refl
ended before front (Some []) h = cc
ended before front (Some (l ∷ ls)) h = ap Some (append_assoc before (front ∷ []) (front_of l ∷ map front_of ls)
    ∙ ap (λ f. before ++ f ∷ front_of l ∷ map front_of ls) (sym (append-nil front)))

pub front_end : (before : List (List ℕ)) (front word : List ℕ) (words : List (List ℕ))
    → pointwise nat_eq word (codes "|") ≡ true
    → option_map (λ ls. (before ++ front ∷ []) ++ onto_front [] ls) (lists_of words)
    ≡ option_map (λ ls. before ++ onto_front front ls) (lists_of (word ∷ words))
front_end before front word words t = rw t (ended before front (lists_of words) (some_list words))
