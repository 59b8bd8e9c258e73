-- The line of a step is JSON, and what a reader finds in it is the step's delta.
use Rattle.std.proofs.Common.{◌≡◌, ◌∙◌, ℕ, ◌+◌, ◌≤◌, Bool, true, false, List, [], ◌∷◌, ◌++◌}
use Rattle.std.proofs.Common.{Option, Some, None, ap, append_assoc, append-nil, arith, codes, decimal, length, map}
use Rattle.std.proofs.Common.{refl, subst, sym}
use Rattle.std.proofs.lemmas.List.Elements.{recursion_from_All}
use Rattle.std.specs.Cmp.Lexicographic.{pointwise}
use Rattle.std.specs.List.{AllByRecursion, flat_map, join_with_byte}
use Rattle.std.specs.Option.{option_and_then, option_map}
use Rattle.std.specs.Prelude.{IfSome, if◌then◌else◌, nat_eq}
use Rattle.json.specs.Find.{as_str, get, get_item, get_member}
use Rattle.json.specs.Json.{Items, Json, Members, array, document, item, member, no_members, number, string}
use Rattle.json.specs.Print.{escape, escape_byte, print, print_from, quoted}
use Rattle.json.specs.Tree.{items_tokens, json_tokens}
use Rattle.json.proofs.Printed.Decimals.{IsNumber-decimal}
use Rattle.json.proofs.Printed.Trees.{document-print}
use Rattle.tm_hist.specs.Lines.{interference_word, state_word}
use Rattle.page_steps.specs.Members.{access_member, bytes_of_width, event_member, hits_from, hits_member, kind_number}
use Rattle.page_steps.specs.Members.{load_made, member_text, members_of, members_text, named, pending_member}
use Rattle.page_steps.specs.Members.{some_then, state_member, store_name}
use Rattle.page_steps.specs.Numbers.{numbers_text}
use Rattle.page_steps.specs.Reading.{HasDepth, IsInRange, IsNumber, ReadsAs, access_numbers, event_word, hit_numbers}
use Rattle.page_steps.specs.Reading.{is_inside, list_of, list_or_none, member_of, memory_bytes, new_word, number_of}
use Rattle.page_steps.specs.Reading.{pending_numbers, private_bytes, stored_of}
use Rattle.page_steps.specs.Registers.{changed_numbers}
use Rattle.page_steps.specs.Steps.{step_text}
use Rattle.page_steps.specs.Stored.{stored_text}
use Rattle.page_steps.specs.Types.{Aborted, AbortedBy, Access, B, Begun, Committed, CoreState, D, Drained, Hit, Idle}
use Rattle.page_steps.specs.Types.{Inside, Kind, Loaded, Outcome, PageDelta, Plain, Read, Stopped, StoredByte, Width}
use Rattle.page_steps.specs.Types.{Store, Write}
use Rattle.page_steps.specs.Words.{letter_of}
use Rattle.page_steps.proofs.Escaping.{event_stays, letter_stays, state_stays}
use Rattle.page_steps.proofs.Objects.{object_numbers, object_prints, object_shallow}
use Rattle.page_steps.proofs.Printing.{AreOffers, IsOffer, IsPrint, Offers, found, found_in, members_from, object_item}
use Rattle.page_steps.proofs.Printing.{word_prints}
use Rattle.page_steps.proofs.Values.{IsByteAt, lists_print, lists_read, lists_value, number_reads, numbers_print}
use Rattle.page_steps.proofs.Values.{numbers_read, numbers_value, runs_are_read, runs_print, runs_value}

-- ---- what the object offers

-- a list's value, where it has items
abbrev list_offer : {A : Type 0} → (List A → Json) → List A → Option Json
list_offer value [] = None
list_offer value (first ∷ rest) = Some (value (first ∷ rest))

abbrev word_offer : Option (List ℕ) → Option Json
word_offer word = option_map string word

abbrev offers_of : PageDelta → CoreState → Offers
offers_of delta before =
    (codes "q", word_offer (new_word before delta.state))
    ∷ (codes "r", list_offer numbers_value delta.reads.items)
    ∷ (codes "w", list_offer numbers_value delta.writes.items)
    ∷ (codes "l", list_offer numbers_value (access_numbers (load_made delta.outcome delta.load)))
    ∷ (codes "t", list_offer runs_value (private_bytes delta.outcome delta.stored.items))
    ∷ (codes "m", list_offer runs_value (memory_bytes delta.outcome delta.stored.items))
    ∷ (codes "s", list_offer numbers_value (pending_numbers delta.pending))
    ∷ (codes "d", list_offer lists_value (hit_numbers 0 delta.hits))
    ∷ (codes "e", word_offer (event_word delta.outcome))
    ∷ []

-- the members' texts, one of whose two for stored bytes is empty
abbrev texts_of : PageDelta → CoreState → List (List ℕ)
texts_of delta before =
    state_member before delta.state
    ∷ named (codes "\"r\":") numbers_text delta.reads.items
    ∷ named (codes "\"w\":") numbers_text delta.writes.items
    ∷ access_member (load_made delta.outcome delta.load)
    ∷ named (codes "\"t\":") stored_text (private_bytes delta.outcome delta.stored.items)
    ∷ named (codes "\"m\":") stored_text (memory_bytes delta.outcome delta.stored.items)
    ∷ pending_member delta.pending
    ∷ hits_member delta.hits
    ∷ event_member delta.outcome
    ∷ []

stored_apart : (some : Bool) (outcome : Outcome) (bytes : List StoredByte) (others : List (List ℕ)) →
    members_text some (named (store_name outcome) stored_text bytes ∷ others)
    ≡ members_text some (named (codes "\"t\":") stored_text (private_bytes outcome bytes)
    ∷ named (codes "\"m\":") stored_text (memory_bytes outcome bytes) ∷ others)
stored_apart some Plain bytes others = refl
stored_apart some Loaded bytes others = refl
stored_apart some (Stopped stop) bytes others = refl
stored_apart some Idle bytes others = refl
stored_apart some Begun bytes others = refl
stored_apart some Inside bytes others = refl
stored_apart some Committed bytes others = refl
stored_apart some (Aborted status) bytes others = refl
stored_apart some (AbortedBy by status) bytes others = refl
stored_apart some Drained bytes others = refl

texts_are : (delta : PageDelta) (before : CoreState)
    → members_text false (members_of delta before) ≡ members_text false (texts_of delta before)
texts_are delta before =
    let q = state_member before delta.state in
    let r = named (codes "\"r\":") numbers_text delta.reads.items in
    let w = named (codes "\"w\":") numbers_text delta.writes.items in
    let l = access_member (load_made delta.outcome delta.load) in
    let behind_q = some_then false q in
    let behind_r = some_then behind_q r in
    let behind_w = some_then behind_r w in
    ap
    (λ t. member_text false q ++ (member_text behind_q r ++ (member_text behind_r w ++ (member_text behind_w l ++ t))))
    (stored_apart (some_then behind_w l) delta.outcome delta.stored.items
    (pending_member delta.pending ∷ hits_member delta.hits ∷ event_member delta.outcome ∷ []))

-- ---- each member's text is what is printed of its value

deeper : (value : Json) (text : List ℕ) (low high : ℕ) → low ≤ high → IsPrint low value text → IsPrint high value text
deeper value text low high h is =
    record { prints = is.prints; numbers = is.numbers; shallow = omega (arith, is.shallow) }

named_offer : {A : Type 0} (key name : List ℕ) (value : List A → Json) (text : List A → List ℕ) (items : List A) →
    ((t : List ℕ) → name ++ t ≡ quoted key ++ 58 ∷ t) → IsPrint 2 (value items) (text items) →
    IsOffer (key, list_offer value items) (named name text items)
named_offer key name value text [] e is = refl
named_offer key name value text (first ∷ rest) e is = (text (first ∷ rest), e (text (first ∷ rest)), is)

state_offer : (before now : CoreState) → HasDepth now
    → IsOffer (codes "q", word_offer (new_word before now)) (state_member before now)
unfolding escape_byte
state_offer before now h = of (pointwise nat_eq (state_word before) (state_word now)) where
  of : (same : Bool) → IsOffer (codes "q", word_offer (if same then None else Some (state_word now)))
      (if same then [] else codes "\"q\":" ++ (34 ∷ (state_word now ++ 34 ∷ [])))
  of true = refl
  of false = (
    34 ∷ (state_word now ++ 34 ∷ []),
    refl,
    deeper _ _ 0 2 (omega arith) (word_prints (state_word now) (state_stays now h)),
  )

numbers_offer : (key name : List ℕ) (ns : List ℕ) → ((t : List ℕ) → name ++ t ≡ quoted key ++ 58 ∷ t)
    → AllByRecursion IsNumber ns →
    IsOffer (key, list_offer numbers_value ns) (named name numbers_text ns)
numbers_offer key name ns e h =
    named_offer key name numbers_value numbers_text ns e (deeper _ _ 1 2 (omega arith) (numbers_print ns h))

runs_offer : (key name : List ℕ) (bytes : List StoredByte) → ((t : List ℕ) → name ++ t ≡ quoted key ++ 58 ∷ t)
    → AllByRecursion IsByteAt bytes →
    IsOffer (key, list_offer runs_value bytes) (named name stored_text bytes)
runs_offer key name bytes e h =
    named_offer key name runs_value stored_text bytes e (deeper _ _ 1 2 (omega arith) (runs_print bytes h))

access_offer : (load : Option Access) → AllByRecursion IsNumber (access_numbers load) →
    IsOffer (codes "l", list_offer numbers_value (access_numbers load)) (access_member load)
unfolding escape_byte
access_offer None h = refl
access_offer (Some access) h =
    let numbers = access_numbers (Some access) in
    (numbers_text numbers, refl, deeper _ _ 1 2 (omega arith) (numbers_print numbers h))

pending_offer : (store : Option Store) → AllByRecursion IsNumber (pending_numbers store) →
    IsOffer (codes "s", list_offer numbers_value (pending_numbers store)) (pending_member store)
unfolding escape_byte
pending_offer None h = refl
pending_offer (Some store) h =
    let numbers = pending_numbers (Some store) in
    (numbers_text numbers, refl, deeper _ _ 1 2 (omega arith) (numbers_print numbers h))

event_offer : (outcome : Outcome) → IsOffer (codes "e", word_offer (event_word outcome)) (event_member outcome)
unfolding escape_byte
event_offer Plain = refl
event_offer Loaded = refl
event_offer (Stopped stop) = refl
event_offer Idle = refl
event_offer Begun = refl
event_offer Inside = refl
event_offer Committed = refl
event_offer (Aborted status) = refl
event_offer Drained = refl
event_offer (AbortedBy by status) = (
  34 ∷ (interference_word by ++ 34 ∷ []),
  refl,
  deeper _ _ 0 2 (omega arith) (word_prints (interference_word by) (event_stays by)),
)

-- hits, behind others and by themselves
hits_behind : (core : ℕ) (hits : List (Option Hit))
    → hits_from true core hits ≡ flat_map (λ text. 44 ∷ text) (map numbers_text (hit_numbers core hits))
hits_behind core [] = refl
hits_behind core (None ∷ hits) = hits_behind (core + 1) hits
hits_behind core (Some hit ∷ hits) =
    ap (λ t. 44 ∷ (numbers_text (core ∷ hit.line ∷ kind_number hit.kind ∷ []) ++ t)) (hits_behind (core + 1) hits)

joined_with : (text : List ℕ) (texts : List (List ℕ))
    → join_with_byte 44 (text ∷ texts) ≡ text ++ flat_map (λ text. 44 ∷ text) texts
joined_with text [] = sym (append-nil text)
joined_with text (next ∷ texts) = ap (λ t. text ++ 44 ∷ t) (joined_with next texts)

hits_are : (core : ℕ) (hits : List (Option Hit))
    → hits_from false core hits ≡ join_with_byte 44 (map numbers_text (hit_numbers core hits))
hits_are core [] = refl
hits_are core (None ∷ hits) = hits_are (core + 1) hits
hits_are core (Some hit ∷ hits) =
    let first = numbers_text (core ∷ hit.line ∷ kind_number hit.kind ∷ []) in
    ap (λ t. first ++ t) (hits_behind (core + 1) hits)
    ∙ sym (joined_with first (map numbers_text (hit_numbers (core + 1) hits)))

lists_offer : (lists : List (List ℕ)) → AllByRecursion (AllByRecursion IsNumber) lists →
    IsOffer (codes "d", list_offer lists_value lists)
    (named (codes "\"d\":[") (λ text. text ++ codes "]") (join_with_byte 44 (map numbers_text lists)))
unfolding escape_byte
lists_offer [] h = refl
lists_offer (first ∷ []) h =
    (91 ∷ (join_with_byte 44 (map numbers_text (first ∷ [])) ++ 93 ∷ []), refl, lists_print (first ∷ []) h)
lists_offer (first ∷ next ∷ lists) h = (
  91 ∷ (join_with_byte 44 (map numbers_text (first ∷ next ∷ lists)) ++ 93 ∷ []),
  refl,
  lists_print (first ∷ next ∷ lists) h,
)

hits_offer : (hits : List (Option Hit)) → AllByRecursion (AllByRecursion IsNumber) (hit_numbers 0 hits) →
    IsOffer (codes "d", list_offer lists_value (hit_numbers 0 hits)) (hits_member hits)
hits_offer hits h =
    subst (λ (text : List ℕ). IsOffer (codes "d", list_offer lists_value (hit_numbers 0 hits))
    (named (codes "\"d\":[") (λ text. text ++ codes "]") text))
    (sym (hits_are 0 hits)) (lists_offer (hit_numbers 0 hits) h)

-- ---- the ranges of its numbers

kind_fits : (kind : Kind) → IsNumber (kind_number kind)
kind_fits Read = omega arith
kind_fits Write = omega arith

width_fits : (width : Width) → IsNumber (bytes_of_width width)
width_fits B = omega arith
width_fits D = omega arith

hits_fit : (core : ℕ) (hits : List (Option Hit)) → core + length hits ≤ 64
    → AllByRecursion (λ hit. IfSome hit (λ hit. IsNumber hit.line)) hits →
    AllByRecursion (AllByRecursion IsNumber) (hit_numbers core hits)
hits_fit core [] fits h = tt
hits_fit core (None ∷ hits) fits h = hits_fit (core + 1) hits (omega arith) h.1
hits_fit core (Some hit ∷ hits) fits h =
    ((omega arith, (h.0, (kind_fits hit.kind, tt))), hits_fit (core + 1) hits (omega arith) h.1)

access_fits : (load : Option Access) → IfSome load (λ access. IsNumber access.addr)
    → AllByRecursion IsNumber (access_numbers load)
access_fits None h = tt
access_fits (Some access) h = (h, (width_fits access.width, tt))

pending_fits : (store : Option Store) → IfSome store (λ store. IsNumber store.addr × IsNumber store.value)
    → AllByRecursion IsNumber (pending_numbers store)
pending_fits None h = tt
pending_fits (Some store) h = (h.0, (width_fits store.width, (h.1, tt)))

load_fits : (outcome : Outcome) (load : Option Access) → IfSome load (λ access. IsNumber access.addr) →
    IfSome (load_made outcome load) (λ access. IsNumber access.addr)
load_fits Plain load h = h
load_fits Loaded load h = h
load_fits Inside load h = h
load_fits (Stopped stop) load h = tt
load_fits Idle load h = tt
load_fits Begun load h = tt
load_fits Committed load h = tt
load_fits (Aborted status) load h = tt
load_fits (AbortedBy by status) load h = tt
load_fits Drained load h = tt

private_fits : (inside : Bool) (bytes : List StoredByte) → AllByRecursion IsByteAt bytes
    → AllByRecursion IsByteAt (if inside then bytes else [])
private_fits true bytes h = h
private_fits false bytes h = tt

memory_fits : (inside : Bool) (bytes : List StoredByte) → AllByRecursion IsByteAt bytes
    → AllByRecursion IsByteAt (if inside then [] else bytes)
memory_fits true bytes h = tt
memory_fits false bytes h = h

record Fit (delta : PageDelta) : Type 0 where
  reads : AllByRecursion IsNumber delta.reads.items
  writes : AllByRecursion IsNumber delta.writes.items
  load : AllByRecursion IsNumber (access_numbers (load_made delta.outcome delta.load))
  private : AllByRecursion IsByteAt (private_bytes delta.outcome delta.stored.items)
  memory : AllByRecursion IsByteAt (memory_bytes delta.outcome delta.stored.items)
  pending : AllByRecursion IsNumber (pending_numbers delta.pending)
  hits : AllByRecursion (AllByRecursion IsNumber) (hit_numbers 0 delta.hits)

fit : (delta : PageDelta) → IsInRange delta → Fit delta
fit delta h =
    let stored : AllByRecursion IsByteAt delta.stored.items = recursion_from_All IsByteAt delta.stored.items h.stored in
    record {
      reads = recursion_from_All IsNumber delta.reads.items h.reads;
      writes = recursion_from_All IsNumber delta.writes.items h.writes;
      load = access_fits (load_made delta.outcome delta.load) (load_fits delta.outcome delta.load h.load);
      private = private_fits (is_inside delta.outcome) delta.stored.items stored;
      memory = memory_fits (is_inside delta.outcome) delta.stored.items stored;
      pending = pending_fits delta.pending h.pending;
      hits = hits_fit 0 delta.hits (omega (arith, h.cores))
          (recursion_from_All (λ hit. IfSome hit (λ hit. IsNumber hit.line)) delta.hits h.hits);
    }

are_offers : (delta : PageDelta) (before : CoreState) → IsInRange delta
    → AreOffers (offers_of delta before) (texts_of delta before)
unfolding escape_byte
are_offers delta before h =
    let fits = fit delta h in (
      state_offer before delta.state h.state,
      (
        numbers_offer (codes "r") (codes "\"r\":") delta.reads.items (λ t. refl) fits.reads,
        (
          numbers_offer (codes "w") (codes "\"w\":") delta.writes.items (λ t. refl) fits.writes,
          (
            access_offer (load_made delta.outcome delta.load) fits.load,
            (
              runs_offer (codes "t") (codes "\"t\":") (private_bytes delta.outcome delta.stored.items)
                  (λ t. refl) fits.private,
              (
                runs_offer (codes "m") (codes "\"m\":") (memory_bytes delta.outcome delta.stored.items)
                    (λ t. refl) fits.memory,
                (
                  pending_offer delta.pending fits.pending,
                  (hits_offer delta.hits fits.hits, (event_offer delta.outcome, tt)),
                ),
              ),
            ),
          ),
        ),
      ),
    )

-- ---- the line

abbrev step_items : PageDelta → CoreState → Items
step_items delta before =
    item (number (decimal delta.core))
    (item (string (letter_of delta.outcome)) (item (numbers_value (changed_numbers delta.registers))
    (object_item (members_from (offers_of delta before)))))

abbrev step_value : PageDelta → CoreState → Json
step_value delta before = array (step_items delta before)

step_prints : (delta : PageDelta) (before : CoreState) → IsInRange delta →
    print (json_tokens (step_value delta before)) ≡ step_text delta before
unfolding print_from
step_prints delta before h =
    let letter = letter_of delta.outcome in
    let registers = changed_numbers delta.registers in
    let object = items_tokens (object_item (members_from (offers_of delta before))) in
    let behind = members_text false (texts_of delta before) ++ 93 ∷ [] in
    let printed : print_from true object ≡ behind =
    ap (print_from true) (sym (append-nil object))
    ∙ object_prints (offers_of delta before) (texts_of delta before) [] (are_offers delta before h) in
    let numbers :
    print_from true (json_tokens (numbers_value registers) ++ object) ≡ 44 ∷ (numbers_text registers ++ behind) =
    (numbers_print registers (recursion_from_All IsNumber registers h.registers)).prints true object
    ∙ ap (λ t. 44 ∷ (numbers_text registers ++ t)) printed in
    ap (λ t. 91 ∷ (decimal delta.core ++ (44 ∷ 34 ∷ t)))
    (append_assoc (escape letter) (34 ∷ []) (print_from true (json_tokens (numbers_value registers) ++ object))
    ∙ ap (λ t. t ++ 34 ∷ print_from true (json_tokens (numbers_value registers) ++ object)) (letter_stays delta.outcome)
    ∙ ap (λ t. letter ++ 34 ∷ t) numbers)
    ∙ ap
    (λ t. 91 ∷ (decimal delta.core ++ (44 ∷ 34 ∷ (letter ++ (34 ∷ 44 ∷ (numbers_text registers ++ (t ++ 93 ∷ [])))))))
    (sym (texts_are delta before))

step_is : (delta : PageDelta) (before : CoreState) → IsInRange delta
    → document (step_text delta before) ≡ Some (step_value delta before)
step_is delta before h =
    let registers = changed_numbers delta.registers in
    let numbers = numbers_print registers (recursion_from_All IsNumber registers h.registers) in
    let offered = are_offers delta before h in
    let members = offers_of delta before in
    let texts = texts_of delta before in
    ap document (sym (step_prints delta before h))
    ∙ document-print (step_value delta before)
    (IsNumber-decimal delta.core h.core, (tt, (numbers.numbers, object_numbers members texts offered)))
    (omega (arith, numbers.shallow, object_shallow members texts offered))

-- ---- what is found in it

in_object : (name : List ℕ) (members : Members)
    → option_and_then (get name) (get_item 0 (object_item members)) ≡ get_member name members
in_object name no_members = refl
in_object name (member first value others) = refl

abbrev nine : (q r w l t m s d e : Option Json) → Offers
nine q r w l t m s d e =
    (codes "q", q) ∷ (codes "r", r) ∷ (codes "w", w) ∷ (codes "l", l) ∷ (codes "t", t) ∷ (codes "m", m) ∷ (codes "s", s)
    ∷ (codes "d", d) ∷ (codes "e", e) ∷ []

found_q : (q r w l t m s d e : Option Json) → found (codes "q") (nine q r w l t m s d e) ≡ q
found_q None r w l t m s d e = refl
found_q (Some value) r w l t m s d e = refl

found_r : (q r w l t m s d e : Option Json) → found (codes "r") (nine q r w l t m s d e) ≡ r
found_r q None w l t m s d e = refl
found_r q (Some value) w l t m s d e = refl

found_w : (q r w l t m s d e : Option Json) → found (codes "w") (nine q r w l t m s d e) ≡ w
found_w q r None l t m s d e = refl
found_w q r (Some value) l t m s d e = refl

found_l : (q r w l t m s d e : Option Json) → found (codes "l") (nine q r w l t m s d e) ≡ l
found_l q r w None t m s d e = refl
found_l q r w (Some value) t m s d e = refl

found_t : (q r w l t m s d e : Option Json) → found (codes "t") (nine q r w l t m s d e) ≡ t
found_t q r w l None m s d e = refl
found_t q r w l (Some value) m s d e = refl

found_m : (q r w l t m s d e : Option Json) → found (codes "m") (nine q r w l t m s d e) ≡ m
found_m q r w l t None s d e = refl
found_m q r w l t (Some value) s d e = refl

found_s : (q r w l t m s d e : Option Json) → found (codes "s") (nine q r w l t m s d e) ≡ s
found_s q r w l t m None d e = refl
found_s q r w l t m (Some value) d e = refl

found_d : (q r w l t m s d e : Option Json) → found (codes "d") (nine q r w l t m s d e) ≡ d
found_d q r w l t m s None e = refl
found_d q r w l t m s (Some value) e = refl

found_e : (q r w l t m s d e : Option Json) → found (codes "e") (nine q r w l t m s d e) ≡ e
found_e q r w l t m s d None = refl
found_e q r w l t m s d (Some value) = refl

-- where a list stands, or none
listed : {A : Type 0} (read : Json → Option (List A)) (value : List A → Json) (items : List A)
    → read (value items) ≡ Some items →
    list_or_none read (list_offer value items) ≡ Some items
listed read value [] h = refl
listed read value (first ∷ rest) h = h

worded : (word : Option (List ℕ)) → option_and_then as_str (word_offer word) ≡ word
worded None = refl
worded (Some word) = refl

offered : (delta : PageDelta) (before : CoreState) (name : List ℕ) →
    member_of name (step_value delta before) ≡ found name (offers_of delta before)
offered delta before name =
    in_object name (members_from (offers_of delta before)) ∙ found_in name (offers_of delta before)

pub step_reads : (delta : PageDelta) (before : CoreState) → IsInRange delta
    → ReadsAs delta before (step_text delta before)
step_reads delta before h =
    let fits = fit delta h in
    let outcome = delta.outcome in
    let q = word_offer (new_word before delta.state) in
    let r = list_offer numbers_value delta.reads.items in
    let w = list_offer numbers_value delta.writes.items in
    let l = list_offer numbers_value (access_numbers (load_made outcome delta.load)) in
    let t = list_offer runs_value (private_bytes outcome delta.stored.items) in
    let m = list_offer runs_value (memory_bytes outcome delta.stored.items) in
    let s = list_offer numbers_value (pending_numbers delta.pending) in
    let d = list_offer lists_value (hit_numbers 0 delta.hits) in
    let e = word_offer (event_word outcome) in
    let find = offered delta before in
    let registers = changed_numbers delta.registers in
    record {
      line = step_value delta before;
      is = step_is delta before h;
      core = number_reads delta.core h.core;
      kind = refl;
      registers = numbers_read registers (recursion_from_All IsNumber registers h.registers);
      state = ap (option_and_then as_str) (find (codes "q") ∙ found_q q r w l t m s d e)
          ∙ worded (new_word before delta.state);
      reads = ap (list_or_none (list_of number_of)) (find (codes "r") ∙ found_r q r w l t m s d e)
          ∙ listed (list_of number_of) numbers_value delta.reads.items (numbers_read delta.reads.items fits.reads);
      writes = ap (list_or_none (list_of number_of)) (find (codes "w") ∙ found_w q r w l t m s d e)
          ∙ listed (list_of number_of) numbers_value delta.writes.items (numbers_read delta.writes.items fits.writes);
      load = ap (list_or_none (list_of number_of)) (find (codes "l") ∙ found_l q r w l t m s d e)
          ∙ listed (list_of number_of) numbers_value (access_numbers (load_made outcome delta.load))
          (numbers_read (access_numbers (load_made outcome delta.load)) fits.load);
      private = ap (list_or_none stored_of) (find (codes "t") ∙ found_t q r w l t m s d e)
          ∙ listed stored_of runs_value (private_bytes outcome delta.stored.items)
          (runs_are_read (private_bytes outcome delta.stored.items) fits.private);
      memory = ap (list_or_none stored_of) (find (codes "m") ∙ found_m q r w l t m s d e)
          ∙ listed stored_of runs_value (memory_bytes outcome delta.stored.items)
          (runs_are_read (memory_bytes outcome delta.stored.items) fits.memory);
      pending = ap (list_or_none (list_of number_of)) (find (codes "s") ∙ found_s q r w l t m s d e)
          ∙ listed (list_of number_of) numbers_value (pending_numbers delta.pending)
          (numbers_read (pending_numbers delta.pending) fits.pending);
      hits = ap (list_or_none (list_of (list_of number_of))) (find (codes "d") ∙ found_d q r w l t m s d e)
          ∙ listed (list_of (list_of number_of)) lists_value (hit_numbers 0 delta.hits)
          (lists_read (hit_numbers 0 delta.hits) fits.hits);
      event = ap (option_and_then as_str) (find (codes "e") ∙ found_e q r w l t m s d e) ∙ worded (event_word outcome);
    }
