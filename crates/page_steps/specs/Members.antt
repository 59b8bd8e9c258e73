-- The object of a step (page/README.md): its members, each of which is left out where it says nothing, and the object
-- where all are.
use Rattle.std.specs.Prelude.{ℕ, ◌+◌, nat_eq, Bool, true, false, List, [], ◌∷◌, ◌++◌, codes, Option, Some, None}
use Rattle.std.specs.Prelude.{if◌then◌else◌}
use Rattle.std.specs.Cmp.Lexicographic.{pointwise}
use Rattle.tm_hist.specs.Lines.{interference_word, state_word}
use Rattle.page_text.specs.Commas.{comma_if}
use Rattle.page_steps.specs.Numbers.{numbers_text}
use Rattle.page_steps.specs.Stored.{stored_text}
use Rattle.page_steps.specs.Types.{Aborted, AbortedBy, Access, B, Begun, Committed, CoreState, D, Drained, Hit, Idle}
use Rattle.page_steps.specs.Types.{Inside, Kind}
use Rattle.page_steps.specs.Types.{Loaded, Outcome, PageDelta, Plain, Read, Stopped, Store, Width, Write}
use Rattle.page_steps.specs.Words.{quoted_state}

-- ---- members

-- a list under a name
abbrev pub named : {A : Type 0} → List ℕ → (List A → List ℕ) → List A → List ℕ
named name text [] = []
named name text (item ∷ items) = name ++ text (item ∷ items)

-- what the core does from here on, where that is another word
abbrev pub state_member : CoreState → CoreState → List ℕ
state_member before now =
    if pointwise nat_eq (state_word before) (state_word now) then [] else codes "\"q\":" ++ quoted_state now

abbrev pub bytes_of_width : Width → ℕ
bytes_of_width B = 1
bytes_of_width D = 4

abbrev pub access_member : Option Access → List ℕ
access_member None = []
access_member (Some access) = codes "\"l\":" ++ numbers_text (access.addr ∷ bytes_of_width access.width ∷ [])

-- what a step loaded: one that stopped, began, ended, drained or was idle loaded nothing
abbrev pub load_made : Outcome → Option Access → Option Access
load_made Plain load = load
load_made Loaded load = load
load_made Inside load = load
load_made (Stopped stop) load = None
load_made Idle load = None
load_made Begun load = None
load_made Committed load = None
load_made (Aborted status) load = None
load_made (AbortedBy by status) load = None
load_made Drained load = None

-- inside, bytes are stored privately
abbrev pub store_name : Outcome → List ℕ
store_name Inside = codes "\"t\":"
store_name Plain = codes "\"m\":"
store_name Loaded = codes "\"m\":"
store_name (Stopped stop) = codes "\"m\":"
store_name Idle = codes "\"m\":"
store_name Begun = codes "\"m\":"
store_name Committed = codes "\"m\":"
store_name (Aborted status) = codes "\"m\":"
store_name (AbortedBy by status) = codes "\"m\":"
store_name Drained = codes "\"m\":"

-- of a store that is pending its address, how many bytes, and what is stored
abbrev pub store_numbers : Store → List ℕ
store_numbers store = store.addr ∷ bytes_of_width store.width ∷ store.value ∷ []

-- the store that is pending now
abbrev pub pending_member : Option Store → List ℕ
pending_member None = []
pending_member (Some store) = codes "\"s\":" ++ numbers_text (store_numbers store)

abbrev pub kind_number : Kind → ℕ
kind_number Read = 0
kind_number Write = 1

-- the cores from this number on that a step condemned, each with the line and how it was used, behind commas where
-- there was another
abbrev pub hits_from : Bool → ℕ → List (Option Hit) → List ℕ
hits_from some core [] = []
hits_from some core (None ∷ hits) = hits_from some (core + 1) hits
hits_from some core (Some hit ∷ hits) =
    comma_if some ++ (numbers_text (core ∷ hit.line ∷ kind_number hit.kind ∷ []) ++ hits_from true (core + 1) hits)

abbrev pub hits_member : List (Option Hit) → List ℕ
hits_member hits = named (codes "\"d\":[") (λ text. text ++ codes "]") (hits_from false 0 hits)

abbrev pub event_member : Outcome → List ℕ
event_member (AbortedBy by status) = codes "\"e\":\"" ++ (interference_word by ++ codes "\"")
event_member Plain = []
event_member Loaded = []
event_member (Stopped stop) = []
event_member Idle = []
event_member Begun = []
event_member Inside = []
event_member Committed = []
event_member (Aborted status) = []
event_member Drained = []

abbrev pub members_of : PageDelta → CoreState → List (List ℕ)
members_of delta before =
    state_member before delta.state
    ∷ named (codes "\"r\":") numbers_text delta.reads.items
    ∷ named (codes "\"w\":") numbers_text delta.writes.items
    ∷ access_member (load_made delta.outcome delta.load)
    ∷ named (store_name delta.outcome) stored_text delta.stored.items
    ∷ pending_member delta.pending
    ∷ hits_member delta.hits
    ∷ event_member delta.outcome
    ∷ []

-- ---- an object

-- what stands before a member: a comma, and before the first the brace as well
abbrev pub lead : Bool → List ℕ
lead some = if some then codes "," else codes ",{"

-- whether there is one, behind some others
abbrev pub some_then : Bool → List ℕ → Bool
some_then some [] = some
some_then some (letter ∷ letters) = true

-- a member behind others, where it says something
abbrev pub member_text : Bool → List ℕ → List ℕ
member_text some [] = []
member_text some (letter ∷ letters) = lead some ++ (letter ∷ letters)

-- members behind others, and the end of the object
abbrev pub members_text : Bool → List (List ℕ) → List ℕ
members_text some [] = if some then codes "}" else []
members_text some (member ∷ members) = member_text some member ++ members_text (some_then some member) members
