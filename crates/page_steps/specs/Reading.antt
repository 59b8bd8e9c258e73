-- What a reader of a page finds in the line of a step: by the grammar of JSON (RFC 8259, as the library `json` states
-- it), and by the tables of page/README.md.
use Rattle.std.specs.Prelude.{◌≡◌, ℕ, ◌+◌, ◌<◌, ◌≤◌, ◌^◌, nat_eq, Bool, true, false, List, [], ◌∷◌, ◌++◌, All, Option}
use Rattle.std.specs.Prelude.{Some, None, IfSome, codes, length, if◌then◌else◌}
use Rattle.std.specs.Option.{option_and_then, option_map}
use Rattle.std.specs.Result.{result_ok}
use Rattle.std.specs.Str.{all_ascii_digits}
use Rattle.std.specs.Str.Parse.{digits_value}
use Rattle.std.specs.Cmp.Lexicographic.{pointwise}
use Rattle.hex.specs.Hex.{decode_of}
use Rattle.json.specs.Find.{as_array, as_number, as_str, at, get}
use Rattle.json.specs.Json.{Items, Json, document, item, no_items}
use Rattle.tm_hist.specs.Lines.{interference_word, state_word}
use Rattle.page_steps.specs.Members.{bytes_of_width, kind_number, load_made, store_numbers}
use Rattle.page_steps.specs.Registers.{changed_numbers}
use Rattle.page_steps.specs.Types.{Aborted, AbortedBy, Access, Begun, Committed, CoreState, Hit, Idle, Inside, Loaded}
use Rattle.page_steps.specs.Types.{Drained, Open, Outcome}
use Rattle.page_steps.specs.Types.{AtStop, Condemned, Mid, PageDelta, Plain, Running, Stopped, Store, StoredByte}
use Rattle.page_steps.specs.Words.{letter_of}

-- ---- values

-- a number in decimal digits
abbrev pub number_of : Json → Option ℕ
number_of value =
    option_and_then (λ digits. if all_ascii_digits digits then Some (digits_value 10 digits) else None)
    (as_number value)

-- a list whose items are read alike
abbrev pub items_read : {A : Type 0} → (Json → Option A) → Items → Option (List A)
items_read read no_items = Some []
items_read read (item value others) =
    option_and_then (λ first. option_map (λ rest. first ∷ rest) (items_read read others)) (read value)

abbrev pub list_of : {A : Type 0} → (Json → Option A) → Json → Option (List A)
list_of read value = option_and_then (items_read read) (as_array value)

-- bytes side by side, from an address on
abbrev pub bytes_from : ℕ → List ℕ → List StoredByte
bytes_from address [] = []
bytes_from address (byte ∷ bytes) = record { address = address; byte = byte } ∷ bytes_from (address + 1) bytes

abbrev pub hex_of : Json → Option (List ℕ)
hex_of value = option_and_then (λ digits. result_ok (decode_of digits)) (as_str value)

-- an address, bytes in hex, another address, ..
abbrev pub runs_read : Items → Option (List StoredByte)
runs_read no_items = Some []
runs_read (item address no_items) = None
runs_read (item address (item digits others)) =
    option_and_then (λ first. option_and_then (λ bytes. option_map (λ rest. bytes_from first bytes ++ rest)
    (runs_read others)) (hex_of digits)) (number_of address)

abbrev pub stored_of : Json → Option (List StoredByte)
stored_of value = option_and_then runs_read (as_array value)

-- ---- members of the object, the fourth item of the line

abbrev pub member_of : List ℕ → Json → Option Json
member_of name line = option_and_then (get name) (at 3 line)

-- a list that is left out where it is empty
abbrev pub list_or_none : {A : Type 0} → (Json → Option (List A)) → Option Json → Option (List A)
list_or_none read None = Some []
list_or_none read (Some value) = read value

abbrev pub numbers_of : List ℕ → Json → Option (List ℕ)
numbers_of name line = list_or_none (list_of number_of) (member_of name line)

-- ---- a delta

-- what the core does from here on, where that is another word than before
abbrev pub new_word : CoreState → CoreState → Option (List ℕ)
new_word before now = if pointwise nat_eq (state_word before) (state_word now) then None else Some (state_word now)

abbrev pub access_numbers : Option Access → List ℕ
access_numbers None = []
access_numbers (Some access) = access.addr ∷ bytes_of_width access.width ∷ []

abbrev pub pending_numbers : Option Store → List ℕ
pending_numbers None = []
pending_numbers (Some store) = store_numbers store

-- a step inside of a transaction stores privately, every other one to memory
abbrev pub is_inside : Outcome → Bool
is_inside Inside = true
is_inside Plain = false
is_inside Loaded = false
is_inside (Stopped stop) = false
is_inside Idle = false
is_inside Begun = false
is_inside Committed = false
is_inside (Aborted status) = false
is_inside (AbortedBy by status) = false
is_inside Drained = false

abbrev pub private_bytes : Outcome → List StoredByte → List StoredByte
private_bytes outcome bytes = if is_inside outcome then bytes else []

abbrev pub memory_bytes : Outcome → List StoredByte → List StoredByte
memory_bytes outcome bytes = if is_inside outcome then [] else bytes

-- each core from this number on that is condemned, with the line and how it was used
abbrev pub hit_numbers : ℕ → List (Option Hit) → List (List ℕ)
hit_numbers core [] = []
hit_numbers core (None ∷ hits) = hit_numbers (core + 1) hits
hit_numbers core (Some hit ∷ hits) =
    (core ∷ hit.line ∷ kind_number hit.kind ∷ []) ∷ hit_numbers (core + 1) hits

abbrev pub event_word : Outcome → Option (List ℕ)
event_word (AbortedBy by status) = Some (interference_word by)
event_word Plain = None
event_word Loaded = None
event_word (Stopped stop) = None
event_word Idle = None
event_word Begun = None
event_word Inside = None
event_word Committed = None
event_word (Aborted status) = None
event_word Drained = None

-- a text is JSON, and what is found in it is this delta, of a step before which its core did this
pub record ReadsAs (delta : PageDelta) (before : CoreState) (text : List ℕ) : Type 0 where
  pub line : Json
  pub is : document text ≡ Some line
  pub core : option_and_then number_of (at 0 line) ≡ Some delta.core
  pub kind : option_and_then as_str (at 1 line) ≡ Some (letter_of delta.outcome)
  pub registers : option_and_then (list_of number_of) (at 2 line) ≡ Some (changed_numbers delta.registers)
  pub state : option_and_then as_str (member_of (codes "q") line) ≡ new_word before delta.state
  pub reads : numbers_of (codes "r") line ≡ Some delta.reads.items
  pub writes : numbers_of (codes "w") line ≡ Some delta.writes.items
  pub load : numbers_of (codes "l") line ≡ Some (access_numbers (load_made delta.outcome delta.load))
  pub private : list_or_none stored_of (member_of (codes "t") line)
      ≡ Some (private_bytes delta.outcome delta.stored.items)
  pub memory : list_or_none stored_of (member_of (codes "m") line)
      ≡ Some (memory_bytes delta.outcome delta.stored.items)
  pub pending : numbers_of (codes "s") line ≡ Some (pending_numbers delta.pending)
  pub hits : list_or_none (list_of (list_of number_of)) (member_of (codes "d") line) ≡ Some (hit_numbers 0 delta.hits)
  pub event : option_and_then as_str (member_of (codes "e") line) ≡ event_word delta.outcome

-- ---- what every delta has

abbrev pub IsNumber : ℕ → Type 0
IsNumber number = number < 2 ^ 64

-- a depth is printed in three digits at most
abbrev pub HasDepth : CoreState → Type 0
HasDepth (Open depth) = depth < 1000
HasDepth Running = Unit {0}
HasDepth Mid = Unit {0}
HasDepth (Condemned depth) = Unit {0}
HasDepth (AtStop stop) = Unit {0}

-- its numbers are of 64 bits, and its bytes are bytes
pub record IsInRange (delta : PageDelta) : Type 0 where
  pub core : IsNumber delta.core
  pub registers : All IsNumber (changed_numbers delta.registers)
  pub state : HasDepth delta.state
  pub reads : All IsNumber delta.reads.items
  pub writes : All IsNumber delta.writes.items
  pub load : IfSome delta.load (λ access. IsNumber access.addr)
  pub stored : All (λ byte. IsNumber byte.address × (byte.byte < 256)) delta.stored.items
  pub pending : IfSome delta.pending (λ store. IsNumber store.addr × IsNumber store.value)
  pub cores : length delta.hits ≤ 64
  pub hits : All (λ hit. IfSome hit (λ hit. IsNumber hit.line)) delta.hits
