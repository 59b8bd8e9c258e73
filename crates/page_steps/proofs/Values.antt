-- The values of a step's line: what is printed of them, and what is read in them.
use Rattle.std.proofs.Common.{◌≡◌, ◌∙◌, ℕ, zero, suc, ◌+◌, ◌<◌, Bool, true, false, List, [], ◌∷◌, ◌++◌}
use Rattle.std.proofs.Common.{Some, ap, append_assoc, arith, codes, decimal, map}
use Rattle.std.proofs.Common.{refl, subst, sym}
use Rattle.std.proofs.lemmas.Bool.{and_from, eqb-true, le-leb}
use Rattle.std.proofs.lemmas.Fmt.{decimal_is_IsNumeral}
use Rattle.std.proofs.lemmas.Str.Parse.{digit_from_value}
use Rattle.std.specs.List.{AllByRecursion, flat_map, join_with_byte}
use Rattle.std.specs.Prelude.{if◌then◌else◌, nat_eq}
use Rattle.std.specs.Result.{result_ok}
use Rattle.std.specs.Str.{all_ascii_digits}
use Rattle.std.specs.Str.Parse.{AllDigits}
use Rattle.hex.proofs.HexLemmas.{decode_of-encode_lower}
use Rattle.hex.specs.Hex.{IsBytes, encode_lower, encode_with}
use Rattle.json.specs.Json.{Items, Json, array, item, no_items, number, string}
use Rattle.page_steps.specs.Numbers.{numbers_text}
use Rattle.page_steps.specs.Reading.{IsNumber, bytes_from, hex_of, items_read, list_of, number_of, runs_read, stored_of}
use Rattle.page_steps.specs.Stored.{first_text, inner_text, more_text, stored_text}
use Rattle.page_steps.specs.Types.{StoredByte}
use Rattle.page_steps.proofs.Escaping.{hex_stays}
use Rattle.page_steps.proofs.Printing.{ArePrints, IsPrint, array_prints, behind_all, joined, number_prints, word_prints}

-- ---- numbers

all_digits_of : (digits : List ℕ) → AllDigits 10 digits → all_ascii_digits digits ≡ true
all_digits_of [] h = refl
all_digits_of (digit ∷ digits) h =
    let range = digit_from_value digit h.0 in
    and_from _ _ (and_from _ _ (le-leb 48 digit range.0) (le-leb digit 57 range.1)) (all_digits_of digits h.1)

pub number_reads : (n : ℕ) → IsNumber n → number_of (number (decimal n)) ≡ Some n
number_reads n h =
    let is = decimal_is_IsNumeral n h in
    rw (all_digits_of (decimal n) is.0.1) (ap Some is.1)

abbrev pub number_items : List ℕ → Items
number_items [] = no_items
number_items (n ∷ ns) = item (number (decimal n)) (number_items ns)

abbrev pub numbers_value : List ℕ → Json
numbers_value ns = array (number_items ns)

number_items_print : (ns : List ℕ) → AllByRecursion IsNumber ns → ArePrints 0 (number_items ns) (map decimal ns)
number_items_print [] h = tt
number_items_print (n ∷ ns) h = (number_prints n h.0, number_items_print ns h.1)

pub numbers_print : (ns : List ℕ) → AllByRecursion IsNumber ns → IsPrint 1 (numbers_value ns) (numbers_text ns)
numbers_print ns h = array_prints 0 (number_items ns) (map decimal ns) (number_items_print ns h)

number_items_read : (ns : List ℕ) → AllByRecursion IsNumber ns → items_read number_of (number_items ns) ≡ Some ns
number_items_read [] h = refl
number_items_read (n ∷ ns) h = rw (number_reads n h.0, number_items_read ns h.1) refl

pub numbers_read : (ns : List ℕ) → AllByRecursion IsNumber ns → list_of number_of (numbers_value ns) ≡ Some ns
numbers_read ns h = number_items_read ns h

-- ---- lists of them

abbrev pub list_items : List (List ℕ) → Items
list_items [] = no_items
list_items (ns ∷ lists) = item (numbers_value ns) (list_items lists)

abbrev pub lists_value : List (List ℕ) → Json
lists_value lists = array (list_items lists)

list_items_print : (lists : List (List ℕ)) → AllByRecursion (AllByRecursion IsNumber) lists
    → ArePrints 1 (list_items lists) (map numbers_text lists)
list_items_print [] h = tt
list_items_print (ns ∷ lists) h = (numbers_print ns h.0, list_items_print lists h.1)

pub lists_print : (lists : List (List ℕ)) → AllByRecursion (AllByRecursion IsNumber) lists →
    IsPrint 2 (lists_value lists) (91 ∷ (join_with_byte 44 (map numbers_text lists) ++ 93 ∷ []))
lists_print lists h = array_prints 1 (list_items lists) (map numbers_text lists) (list_items_print lists h)

pub lists_read : (lists : List (List ℕ)) → AllByRecursion (AllByRecursion IsNumber) lists →
    list_of (list_of number_of) (lists_value lists) ≡ Some lists
lists_read [] h = refl
lists_read (ns ∷ lists) h = rw (numbers_read ns h.0, lists_read lists h.1) refl

-- ---- bytes that were stored

-- an address, and the bytes from there on
abbrev pub Run : Type 0
Run = ℕ × List ℕ

-- the bytes that go on behind a first one, and the runs behind those
abbrev pub Split : Type 0
Split = List ℕ × List Run

abbrev pub joined_if : Bool → StoredByte → Split → Split
joined_if true byte behind = (byte.byte ∷ behind.0, behind.1)
joined_if false byte behind = ([], (byte.address, byte.byte ∷ behind.0) ∷ behind.1)

abbrev pub split_behind : StoredByte → List StoredByte → Split
split_behind last [] = ([], [])
split_behind last (byte ∷ bytes) = joined_if (nat_eq byte.address (last.address + 1)) byte (split_behind byte bytes)

abbrev pub runs_of : List StoredByte → List Run
runs_of [] = []
runs_of (byte ∷ bytes) = (byte.address, byte.byte ∷ (split_behind byte bytes).0) ∷ (split_behind byte bytes).1

abbrev pub hex_quoted : List ℕ → List ℕ
hex_quoted bytes = 34 ∷ (encode_lower bytes ++ 34 ∷ [])

abbrev pub run_texts : List Run → List (List ℕ)
run_texts [] = []
run_texts (run ∷ runs) = decimal run.0 ∷ hex_quoted run.1 ∷ run_texts runs

abbrev pub run_items : List Run → Items
run_items [] = no_items
run_items (run ∷ runs) = item (number (decimal run.0)) (item (string (encode_lower run.1)) (run_items runs))

abbrev pub runs_value : List StoredByte → Json
runs_value bytes = array (run_items (runs_of bytes))

-- the texts are those runs
more_step : (next : Bool) (byte : StoredByte) (text : List ℕ) (behind : Split) →
    text ++ 34 ∷ [] ≡ encode_lower behind.0 ++ 34 ∷ behind_all (run_texts behind.1) →
    ((if next then encode_lower (byte.byte ∷ []) else codes "\"," ++ first_text byte) ++ text) ++ 34 ∷ []
    ≡ encode_lower (joined_if next byte behind).0 ++ 34 ∷ behind_all (run_texts (joined_if next byte behind).1)
unfolding encode_with
more_step true byte text behind h = ap (λ t. encode_lower (byte.byte ∷ []) ++ t) h
more_step false byte text behind h =
    let digits = encode_lower (byte.byte ∷ []) in
    let inner = decimal byte.address ++ (codes ",\"" ++ digits) in
    ap (λ t. codes "\"," ++ t) (append_assoc inner text (34 ∷ [])
    ∙ append_assoc (decimal byte.address) (codes ",\"" ++ digits) (text ++ 34 ∷ [])
    ∙ ap (λ t. decimal byte.address ++ (codes ",\"" ++ (digits ++ t)))
    (h ∙ sym (append_assoc (encode_lower behind.0) (34 ∷ []) (behind_all (run_texts behind.1)))))

more_is : (last : StoredByte) (bytes : List StoredByte) →
    more_text last bytes ++ 34 ∷ []
    ≡ encode_lower (split_behind last bytes).0 ++ 34 ∷ behind_all (run_texts (split_behind last bytes).1)
unfolding encode_with
more_is last [] = refl
more_is last (byte ∷ bytes) =
    more_step (nat_eq byte.address (last.address + 1)) byte (more_text byte bytes) (split_behind byte bytes)
    (more_is byte bytes)

inner_is : (bytes : List StoredByte) → inner_text bytes ≡ join_with_byte 44 (run_texts (runs_of bytes))
unfolding encode_with
inner_is [] = refl
inner_is (byte ∷ bytes) =
    let digits = encode_lower (byte.byte ∷ []) in
    let behind = split_behind byte bytes in
    append_assoc (decimal byte.address) (codes ",\"" ++ digits) (more_text byte bytes ++ 34 ∷ [])
    ∙ ap (λ t. decimal byte.address ++ (codes ",\"" ++ (digits ++ t)))
    (more_is byte bytes ∙ sym (append_assoc (encode_lower behind.0) (34 ∷ []) (behind_all (run_texts behind.1))))
    ∙ sym (joined (decimal byte.address) (hex_quoted (byte.byte ∷ behind.0) ∷ run_texts behind.1))

-- ---- the numbers and bytes of runs

abbrev pub IsByteAt : StoredByte → Type 0
IsByteAt byte = IsNumber byte.address × (byte.byte < 256)

abbrev AreBytes : List ℕ → Type 0
AreBytes bytes = AllByRecursion (λ byte. byte < 256) bytes

are_bytes : (bytes : List ℕ) → AreBytes bytes → IsBytes bytes
are_bytes [] h i = omega arith
are_bytes (byte ∷ bytes) h zero = h.0
are_bytes (byte ∷ bytes) h (suc i) = are_bytes bytes h.1 i

abbrev AreRuns : List Run → Type 0
AreRuns runs = AllByRecursion (λ run. IsNumber run.0 × AreBytes run.1) runs

joined_runs : (next : Bool) (byte : StoredByte) (behind : Split) → IsByteAt byte → AreBytes behind.0
    → AreRuns behind.1 →
    AreBytes (joined_if next byte behind).0 × AreRuns (joined_if next byte behind).1
joined_runs true byte behind h bytes runs = ((h.1, bytes), runs)
joined_runs false byte behind h bytes runs = (tt, ((h.0, (h.1, bytes)), runs))

split_runs : (last : StoredByte) (bytes : List StoredByte) → AllByRecursion IsByteAt bytes →
    AreBytes (split_behind last bytes).0 × AreRuns (split_behind last bytes).1
split_runs last [] h = (tt, tt)
split_runs last (byte ∷ bytes) h =
    let behind = split_runs byte bytes h.1 in
    joined_runs (nat_eq byte.address (last.address + 1)) byte (split_behind byte bytes) h.0 behind.0 behind.1

are_runs : (bytes : List StoredByte) → AllByRecursion IsByteAt bytes → AreRuns (runs_of bytes)
are_runs [] h = tt
are_runs (byte ∷ bytes) h = let behind = split_runs byte bytes h.1 in ((h.0.0, (h.0.1, behind.0)), behind.1)

run_items_print : (runs : List Run) → AreRuns runs → ArePrints 0 (run_items runs) (run_texts runs)
run_items_print [] h = tt
run_items_print (run ∷ runs) h = (
  number_prints run.0 h.0.0,
  (word_prints (encode_lower run.1) (hex_stays run.1 (are_bytes run.1 h.0.1)), run_items_print runs h.1),
)

pub runs_print : (bytes : List StoredByte) → AllByRecursion IsByteAt bytes
    → IsPrint 1 (runs_value bytes) (stored_text bytes)
runs_print bytes h =
    subst (λ (text : List ℕ). IsPrint 1 (runs_value bytes) (91 ∷ (text ++ 93 ∷ []))) (sym (inner_is bytes))
    (array_prints 0 (run_items (runs_of bytes)) (run_texts (runs_of bytes))
    (run_items_print (runs_of bytes) (are_runs bytes h)))

-- ---- what is read in them

abbrev run_bytes : Run → List StoredByte
run_bytes run = bytes_from run.0 run.1

hex_reads : (bytes : List ℕ) → AreBytes bytes → hex_of (string (encode_lower bytes)) ≡ Some bytes
hex_reads bytes h = ap result_ok (decode_of-encode_lower bytes (are_bytes bytes h))

run_items_read : (runs : List Run) → AreRuns runs → runs_read (run_items runs) ≡ Some (flat_map run_bytes runs)
run_items_read [] h = refl
run_items_read (run ∷ runs) h = rw (number_reads run.0 h.0.0, hex_reads run.1 h.0.1, run_items_read runs h.1) refl

joined_bytes : (last : ℕ) (byte : StoredByte) (bytes : List StoredByte) (behind : Split) (next : Bool)
    → nat_eq byte.address (last + 1) ≡ next →
    bytes_from (byte.address + 1) behind.0 ++ flat_map run_bytes behind.1 ≡ bytes →
    bytes_from (last + 1) (joined_if next byte behind).0 ++ flat_map run_bytes (joined_if next byte behind).1
    ≡ byte ∷ bytes
joined_bytes last byte bytes behind true e h =
    let at : byte.address ≡ last + 1 = eqb-true byte.address (last + 1) e in
    ap (λ (first : ℕ). bytes_from first (byte.byte ∷ behind.0) ++ flat_map run_bytes behind.1) (sym at)
    ∙ ap (λ (others : List StoredByte). byte ∷ others) h
joined_bytes last byte bytes behind false e h = ap (λ (others : List StoredByte). byte ∷ others) h

split_bytes : (last : StoredByte) (bytes : List StoredByte) →
    bytes_from (last.address + 1) (split_behind last bytes).0 ++ flat_map run_bytes (split_behind last bytes).1 ≡ bytes
split_bytes last [] = refl
split_bytes last (byte ∷ bytes) =
    joined_bytes last.address byte bytes (split_behind byte bytes) (nat_eq byte.address (last.address + 1)) refl
    (split_bytes byte bytes)

runs_bytes : (bytes : List StoredByte) → flat_map run_bytes (runs_of bytes) ≡ bytes
runs_bytes [] = refl
runs_bytes (byte ∷ bytes) = ap (λ (others : List StoredByte). byte ∷ others) (split_bytes byte bytes)

pub runs_are_read : (bytes : List StoredByte) → AllByRecursion IsByteAt bytes
    → stored_of (runs_value bytes) ≡ Some bytes
runs_are_read bytes h = run_items_read (runs_of bytes) (are_runs bytes h) ∙ ap Some (runs_bytes bytes)
