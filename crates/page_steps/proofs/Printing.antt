-- Texts that are what the library's writer of JSON prints of a value, so that they are read back as that value.
use Rattle.std.proofs.Common.{◌≡◌, ◌∙◌, ℕ, ◌+◌, ◌<◌, ◌≤◌, ◌^◌, Bool, true, false, cond, List, [], ◌∷◌, ◌++◌}
use Rattle.std.proofs.Common.{Option, Some, None, ap, append_assoc, append-nil, arith, decimal, refl, subst, sym}
use Rattle.std.specs.List.{flat_map, join_with_byte}
use Rattle.std.specs.Str.{bytes_eq}
use Rattle.json.specs.Token.{Token}
use Rattle.json.specs.Json.{Items, Json, Members, array, item, member, no_items, no_members}
use Rattle.json.specs.Json.{number, object, string}
use Rattle.json.specs.Print.{escape, print_from, quoted}
use Rattle.json.specs.Tree.{HasNumbers, ItemsHaveNumbers, depth, items_depth, items_tokens}
use Rattle.json.specs.Tree.{json_tokens}
use Rattle.json.specs.Find.{get_member, later_or}
use Rattle.json.proofs.Printed.Decimals.{IsNumber-decimal}

-- a text behind a comma, where something stands before it
abbrev pub behind : Bool → List ℕ → List ℕ
behind after text = cond after (44 ∷ text) text

-- it is what is printed of a value that nests so deep, wherever that stands
pub record IsPrint (most : ℕ) (value : Json) (text : List ℕ) : Type 0 where
  pub prints : (after : Bool) (rest : List Token)
      → print_from after (json_tokens value ++ rest) ≡ behind after text ++ print_from true rest
  pub numbers : HasNumbers value
  pub shallow : depth value ≤ most

pub number_prints : (n : ℕ) → n < 2 ^ 64 → IsPrint 0 (number (decimal n)) (decimal n)
unfolding print_from
number_prints n h = record {
  prints = λ after rest. elim after as (λ after. print_from after (json_tokens (number (decimal n)) ++ rest)
      ≡ behind after (decimal n) ++ print_from true rest) [ true ↦ refl | false ↦ refl ];
  numbers = IsNumber-decimal n h;
  shallow = omega arith;
}

-- a word in which nothing is escaped
pub word_prints : (word : List ℕ) → escape word ≡ word → IsPrint 0 (string word) (34 ∷ (word ++ 34 ∷ []))
unfolding print_from
word_prints word e = record {
  prints = λ after rest. subst (λ text. print_from after (json_tokens (string word) ++ rest)
      ≡ behind after (34 ∷ (text ++ 34 ∷ [])) ++ print_from true rest) e
      (elim after
      as (λ after. print_from after (json_tokens (string word) ++ rest)
      ≡ behind after (34 ∷ (escape word ++ 34 ∷ [])) ++ print_from true rest) [ true ↦ refl | false ↦ refl ]);
  numbers = tt;
  shallow = omega arith;
}

-- ---- arrays

-- each text is what is printed of its item
abbrev pub ArePrints : ℕ → Items → List (List ℕ) → Type 0
ArePrints most no_items [] = Unit {0}
ArePrints most no_items (text ∷ texts) = ⊥
ArePrints most (item value others) [] = ⊥
ArePrints most (item value others) (text ∷ texts) = IsPrint most value text × ArePrints most others texts

-- texts behind commas
abbrev pub behind_all : List (List ℕ) → List ℕ
behind_all texts = flat_map (λ text. 44 ∷ text) texts

-- the items behind some others, with the bracket that closes them
pub items_print : (most : ℕ) (values : Items) (texts : List (List ℕ)) (rest : List Token)
    → ArePrints most values texts →
    print_from true (items_tokens values ++ rest) ≡ behind_all texts ++ 93 ∷ print_from true rest
unfolding print_from
items_print most no_items [] rest h = refl
items_print most no_items (text ∷ texts) rest h = absurd h
items_print most (item value others) [] rest h = absurd h
items_print most (item value others) (text ∷ texts) rest h =
    ap (print_from true) (append_assoc (json_tokens value) (items_tokens others) rest)
    ∙ h.0.prints true (items_tokens others ++ rest)
    ∙ ap (λ t. (44 ∷ text) ++ t) (items_print most others texts rest h.1)
    ∙ sym (append_assoc (44 ∷ text) (behind_all texts) (93 ∷ print_from true rest))

-- a list with commas between, by its first element
pub joined : (text : List ℕ) (texts : List (List ℕ)) → join_with_byte 44 (text ∷ texts) ≡ text ++ behind_all texts
joined text [] = sym (append-nil text)
joined text (next ∷ texts) = ap (λ t. text ++ 44 ∷ t) (joined next texts)

items_first : (most : ℕ) (values : Items) (texts : List (List ℕ)) (rest : List Token) → ArePrints most values texts →
    print_from false (items_tokens values ++ rest) ≡ join_with_byte 44 texts ++ 93 ∷ print_from true rest
unfolding print_from
items_first most no_items [] rest h = refl
items_first most no_items (text ∷ texts) rest h = absurd h
items_first most (item value others) [] rest h = absurd h
items_first most (item value others) (text ∷ texts) rest h =
    ap (print_from false) (append_assoc (json_tokens value) (items_tokens others) rest)
    ∙ h.0.prints false (items_tokens others ++ rest)
    ∙ ap (λ t. text ++ t) (items_print most others texts rest h.1)
    ∙ sym (append_assoc text (behind_all texts) (93 ∷ print_from true rest))
    ∙ ap (λ t. t ++ 93 ∷ print_from true rest) (sym (joined text texts))

items_numbers : (most : ℕ) (values : Items) (texts : List (List ℕ)) → ArePrints most values texts
    → ItemsHaveNumbers values
items_numbers most no_items texts h = tt
items_numbers most (item value others) [] h = absurd h
items_numbers most (item value others) (text ∷ texts) h = (h.0.numbers, items_numbers most others texts h.1)

items_shallow : (most : ℕ) (values : Items) (texts : List (List ℕ)) → ArePrints most values texts
    → items_depth values ≤ most
items_shallow most no_items texts h = omega arith
items_shallow most (item value others) [] h = absurd h
items_shallow most (item value others) (text ∷ texts) h =
    omega (arith, h.0.shallow, items_shallow most others texts h.1)

pub array_prints : (most : ℕ) (values : Items) (texts : List (List ℕ)) → ArePrints most values texts →
    IsPrint (most + 1) (array values) (91 ∷ (join_with_byte 44 texts ++ 93 ∷ []))
unfolding print_from
array_prints most values texts h = record {
  prints = λ after rest.
      let inner :
      print_from false (items_tokens values ++ rest) ≡ (join_with_byte 44 texts ++ 93 ∷ []) ++ print_from true rest =
      items_first most values texts rest h
      ∙ sym (append_assoc (join_with_byte 44 texts) (93 ∷ []) (print_from true rest)) in
      elim after as (λ after. print_from after (json_tokens (array values) ++ rest)
      ≡ behind after (91 ∷ (join_with_byte 44 texts ++ 93 ∷ [])) ++ print_from true rest)
      [ true ↦ ap (λ t. 44 ∷ 91 ∷ t) inner | false ↦ ap (λ t. 91 ∷ t) inner ];
  numbers = items_numbers most values texts h;
  shallow = omega (arith, items_shallow most values texts h);
}

-- ---- objects whose members are left out where they say nothing

-- names, each with a value, or none
abbrev pub Offers : Type 0
Offers = List (List ℕ × Option Json)

abbrev pub members_from : Offers → Members
members_from [] = no_members
members_from ((name, None) ∷ others) = members_from others
members_from ((name, Some value) ∷ others) = member name value (members_from others)

-- an array that ends with the object, which is left out where it is empty
abbrev pub object_item : Members → Items
object_item no_members = no_items
object_item (member name value others) = item (object (member name value others)) no_items

-- a text is nothing, or the name and what is printed of the value
abbrev pub IsOffer : List ℕ × Option Json → List ℕ → Type 0
IsOffer (name, None) text = text ≡ []
IsOffer (name, Some value) text = (printed : List ℕ) × (text ≡ quoted name ++ 58 ∷ printed) × IsPrint 2 value printed

abbrev pub AreOffers : Offers → List (List ℕ) → Type 0
AreOffers [] [] = Unit {0}
AreOffers [] (text ∷ texts) = ⊥
AreOffers (offer ∷ offers) [] = ⊥
AreOffers (offer ∷ offers) (text ∷ texts) = IsOffer offer text × AreOffers offers texts

-- ---- what is found in them

abbrev pub found : List ℕ → Offers → Option Json
found name [] = None
found name (offer ∷ offers) = later_or (found name offers) (cond (bytes_eq offer.0 name) offer.1 None)

none_first : (here : Bool) (later : Option Json) → later_or later (cond here None None) ≡ later
none_first true None = refl
none_first true (Some value) = refl
none_first false None = refl
none_first false (Some value) = refl

pub found_in : (name : List ℕ) (offers : Offers) → get_member name (members_from offers) ≡ found name offers
found_in name [] = refl
found_in name ((other, None) ∷ offers) =
    found_in name offers ∙ sym (none_first (bytes_eq other name) (found name offers))
found_in name ((other, Some value) ∷ offers) =
    ap (λ later. later_or later (cond (bytes_eq other name) (Some value) None)) (found_in name offers)
