-- The object of a step is what is printed of its members' values, and what is found in it are they.
use Rattle.std.proofs.Common.{◌≡◌, ◌∙◌, ℕ, ◌≤◌, Bool, true, false, List, [], ◌∷◌, ◌++◌, Some}
use Rattle.std.proofs.Common.{None, ap, append_assoc, arith, refl, sym}
use Rattle.json.specs.Token.{Token}
use Rattle.json.specs.Json.{Json, Members, member, no_members}
use Rattle.json.specs.Print.{print_from, quoted}
use Rattle.json.specs.Tree.{ItemsHaveNumbers, MembersHaveNumbers, items_depth, items_tokens, json_tokens}
use Rattle.json.specs.Tree.{members_depth, members_tokens}
use Rattle.page_steps.specs.Members.{members_text}
use Rattle.page_steps.proofs.Printing.{AreOffers, IsPrint, Offers, behind, members_from, object_item}

member_prints : (after : Bool) (name : List ℕ) (value : Json) (printed : List ℕ) (rest : List Token)
    → IsPrint 2 value printed →
    print_from after (Token.key name ∷ (json_tokens value ++ rest))
    ≡ behind after (quoted name ++ 58 ∷ printed) ++ print_from true rest
unfolding print_from
member_prints after name value printed rest h =
    let q = quoted name in
    let p = print_from true rest in
    let inner : (q ++ 58 ∷ []) ++ print_from false (json_tokens value ++ rest) ≡ (q ++ 58 ∷ printed) ++ p =
    ap (λ t. (q ++ 58 ∷ []) ++ t) (h.prints false rest) ∙ append_assoc q (58 ∷ []) (printed ++ p)
    ∙ sym (append_assoc q (58 ∷ printed) p) in
    elim after
    as (λ after. print_from after (Token.key name ∷ (json_tokens value ++ rest))
    ≡ behind after (q ++ 58 ∷ printed) ++ p)
    [ true ↦ ap (λ t. 44 ∷ t) inner | false ↦ inner ]

-- members behind another one
pub members_print : (offers : Offers) (texts : List (List ℕ)) (rest : List Token) → AreOffers offers texts →
    print_from true (members_tokens (members_from offers) ++ rest) ≡ members_text true texts ++ print_from true rest
unfolding print_from
members_print [] [] rest h = refl
members_print [] (text ∷ texts) rest h = absurd h
members_print (offer ∷ offers) [] rest h = absurd h
members_print ((name, None) ∷ offers) (text ∷ texts) rest h =
    members_print offers texts rest h.1
    ∙ ap (λ t. members_text true (t ∷ texts) ++ print_from true rest) (sym h.0)
members_print ((name, Some value) ∷ offers) (text ∷ texts) rest h =
    let printed = h.0.0 in
    let p = print_from true rest in
    ap (λ t. print_from true (Token.key name ∷ t))
    (append_assoc (json_tokens value) (members_tokens (members_from offers)) rest)
    ∙ member_prints true name value printed (members_tokens (members_from offers) ++ rest) h.0.2
    ∙ ap (λ t. (44 ∷ (quoted name ++ 58 ∷ printed)) ++ t) (members_print offers texts rest h.1)
    ∙ sym (append_assoc (44 ∷ (quoted name ++ 58 ∷ printed)) (members_text true texts) p)
    ∙ ap (λ t. members_text true (t ∷ texts) ++ p) (sym h.0.1)

-- the object behind other items, where there is one, and the end of the array
pub object_prints : (offers : Offers) (texts : List (List ℕ)) (rest : List Token) → AreOffers offers texts →
    print_from true (items_tokens (object_item (members_from offers)) ++ rest)
    ≡ members_text false texts ++ 93 ∷ print_from true rest
unfolding print_from
object_prints [] [] rest h = refl
object_prints [] (text ∷ texts) rest h = absurd h
object_prints (offer ∷ offers) [] rest h = absurd h
object_prints ((name, None) ∷ offers) (text ∷ texts) rest h =
    object_prints offers texts rest h.1
    ∙ ap (λ t. members_text false (t ∷ texts) ++ 93 ∷ print_from true rest) (sym h.0)
object_prints ((name, Some value) ∷ offers) (text ∷ texts) rest h =
    let printed = h.0.0 in
    let members = members_tokens (members_from offers) in
    let closed = Token.end_array ∷ rest in
    let p = 93 ∷ print_from true rest in
    ap (λ t. print_from true (Token.begin_object ∷ Token.key name ∷ t))
    (append_assoc (json_tokens value ++ members) (Token.end_array ∷ []) rest
    ∙ append_assoc (json_tokens value) members closed)
    ∙ ap (λ t. 44 ∷ 123 ∷ t) (member_prints false name value printed (members ++ closed) h.0.2
    ∙ ap (λ t. (quoted name ++ 58 ∷ printed) ++ t) (members_print offers texts closed h.1)
    ∙ sym (append_assoc (quoted name ++ 58 ∷ printed) (members_text true texts) p))
    ∙ ap (λ t. members_text false (t ∷ texts) ++ p) (sym h.0.1)

members_numbers : (offers : Offers) (texts : List (List ℕ)) → AreOffers offers texts
    → MembersHaveNumbers (members_from offers)
members_numbers [] texts h = tt
members_numbers (offer ∷ offers) [] h = absurd h
members_numbers ((name, None) ∷ offers) (text ∷ texts) h = members_numbers offers texts h.1
members_numbers ((name, Some value) ∷ offers) (text ∷ texts) h = (h.0.2.numbers, members_numbers offers texts h.1)

members_shallow : (offers : Offers) (texts : List (List ℕ)) → AreOffers offers texts
    → members_depth (members_from offers) ≤ 2
members_shallow [] texts h = omega arith
members_shallow (offer ∷ offers) [] h = absurd h
members_shallow ((name, None) ∷ offers) (text ∷ texts) h = members_shallow offers texts h.1
members_shallow ((name, Some value) ∷ offers) (text ∷ texts) h =
    omega (arith, h.0.2.shallow, members_shallow offers texts h.1)

object_numbers_of : (members : Members) → MembersHaveNumbers members → ItemsHaveNumbers (object_item members)
object_numbers_of no_members h = tt
object_numbers_of (member name value others) h = (h, tt)

object_shallow_of : (members : Members) → members_depth members ≤ 2 → items_depth (object_item members) ≤ 3
object_shallow_of no_members h = omega arith
object_shallow_of (member name value others) h = omega arith

pub object_numbers : (offers : Offers) (texts : List (List ℕ)) → AreOffers offers texts →
    ItemsHaveNumbers (object_item (members_from offers))
object_numbers offers texts h = object_numbers_of (members_from offers) (members_numbers offers texts h)

pub object_shallow : (offers : Offers) (texts : List (List ℕ)) → AreOffers offers texts →
    items_depth (object_item (members_from offers)) ≤ 3
object_shallow offers texts h = object_shallow_of (members_from offers) (members_shallow offers texts h)
