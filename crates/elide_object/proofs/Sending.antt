-- What is sent of lists and of objects, a part after another.
use Rattle.std.proofs.Common.{◌≡◌, ℕ, suc, List, [], ◌∷◌, Bool, false, ◌||◌, Some, ap, length, map, refl, subst, sym}
use Rattle.std.specs.Borrow.{Bor}
use Rattle.serde.specs.Event.{Log, Logs, WritesEach, WritesSeq, seq_begins, seq_ends, text}
use Rattle.serde_json.specs.Data.{Data, Items, Members, array, item, member, string}
use Rattle.serde_json.specs.Events.{SendsItems, SendsMembers, SendsValue, items_len}
use Rattle.serde_json.specs.Written.{has_float, items_have_float}
use Rattle.elide_object.specs.Object.{SendsMember, items_of, list_value, text_list}

items_len-items_of : {A : Type 0} (f : A → Data) (xs : List A) → items_len (items_of f xs) ≡ length xs
items_len-items_of f [] = refl
items_len-items_of f (x ∷ xs) = ap suc (items_len-items_of f xs)

-- items that were sent one after another, and the end behind them
sent_items : {A : Type 0} (f : A → Data) (xs : List A) (a b c : Log) → WritesEach (λ x. SendsValue (f x)) xs a b →
    Logs b c seq_ends → SendsItems (items_of f xs) a c
sent_items f [] a b c each ended = subst (λ log. Logs log c seq_ends) each ended
sent_items f (x ∷ xs) a b c each ended = (each.0, each.1, sent_items f xs each.0 b c each.2 ended)

-- a list whose items were sent
pub sent_list : {A : Type 0} (f : A → Data) (xs : List A) (a b : Log) → WritesSeq (λ x. SendsValue (f x)) xs a b →
    SendsValue (list_value f xs) a b
sent_list f xs a b seq = (
  seq.0,
  subst (λ (n : ℕ). Logs a seq.0 (seq_begins (Some n))) (sym (items_len-items_of f xs)) seq.2,
  sent_items f xs seq.0 seq.1 b seq.3 seq.4,
)

items_of_texts : (texts : List (Bor (List ℕ))) →
    items_of (λ (s : Bor (List ℕ)). string s.now) texts ≡ items_of string (map (λ s. s.now) texts)
items_of_texts [] = refl
items_of_texts (s ∷ texts) = ap (item (string s.now)) (items_of_texts texts)

-- a list of texts, each behind a reference
pub sent_texts : (texts : List (Bor (List ℕ))) (a b : Log)
    → WritesSeq (λ s old new. Logs old new (text s.now)) texts a b →
    SendsValue (text_list (map (λ s. s.now) texts)) a b
sent_texts texts a b seq =
    let sent : SendsValue (list_value (λ (s : Bor (List ℕ)). string s.now) texts) a b =
    sent_list (λ (s : Bor (List ℕ)). string s.now) texts a b seq in
    subst (λ (items : Items). SendsValue (array items) a b) (items_of_texts texts) sent

-- a member of an object, before the others
pub sent_member : (name : List ℕ) (value : Data) (ms : Members) (a b c : Log) → SendsMember name value a b →
    SendsMembers ms b c → SendsMembers (member name value ms) a c
sent_member name value ms a b c sent rest = (sent.0, b, sent.1, sent.2, rest)

-- neither of two values has a float
pub no_float_both : (a b : Bool) → a ≡ false → b ≡ false → (a || b) ≡ false
no_float_both a b first second = rw first second

-- items of which none has a float
pub no_float_items : {A : Type 0} (f : A → Data) → ((x : A) → has_float (f x) ≡ false) → (xs : List A) →
    items_have_float (items_of f xs) ≡ false
no_float_items f none [] = refl
no_float_items f none (x ∷ xs) =
    no_float_both (has_float (f x)) (items_have_float (items_of f xs)) (none x) (no_float_items f none xs)

-- a member whose value is that of another thing, which is the same
pub sent_equal : {A : Type 0} (name : List ℕ) (value_of : A → Data) (x y : A) (a b : Log) → x ≡ y →
    SendsMember name (value_of x) a b → SendsMember name (value_of y) a b
sent_equal name value_of x y a b same sent = subst (λ z. SendsMember name (value_of z) a b) same sent
