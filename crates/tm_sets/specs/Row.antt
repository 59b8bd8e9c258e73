-- The row of entries of a directory. An entry is told by its index + 1, and 0 tells none.
use Rattle.std.specs.Prelude.{ℕ, ◌+◌, ◌-◌, Bool, false, ◌&&◌, nat_eq, List, [], ◌∷◌, Option, Some, None}
use Rattle.std.specs.Prelude.{slice_index_or, slice_set, if◌then◌else◌}
use Rattle.std.specs.FinSet as set
use Rattle.tm_sets.specs.declared.interface.Kind.{Kind}
use Rattle.tm_sets.specs.declared.interface.Kind.TheVariants.{Read, Write}
use Rattle.tm_sets.specs.declared.row.Entry.{Entry}
use Rattle.tm_sets.specs.LineSet.{Lines}
use Rattle.tm_sets.specs.Content.{same_kind}

-- an entry for nothing
abbrev pub no_entry : Entry
no_entry = record {
  held = false;
  core = 0;
  kind = Read;
  line = 0;
  slot = 0;
  before_on_core = 0;
  after_on_core = 0;
  before_on_line = 0;
  after_on_line = 0;
}

abbrev pub entry_at : List Entry → ℕ → Entry
entry_at entries place = slice_index_or entries place no_entry

-- the row with one link of the entry told changed
abbrev pub with_before_on_core : List Entry → ℕ → ℕ → List Entry
with_before_on_core entries told before =
    if nat_eq told 0 then entries
    else slice_set entries (told - 1) (record (entry_at entries (told - 1)) { before_on_core = before })

abbrev pub with_before_on_line : List Entry → ℕ → ℕ → List Entry
with_before_on_line entries told before =
    if nat_eq told 0 then entries
    else slice_set entries (told - 1) (record (entry_at entries (told - 1)) { before_on_line = before })

abbrev pub with_after_on_line : List Entry → ℕ → ℕ → List Entry
with_after_on_line entries told after =
    if nat_eq told 0 then entries
    else slice_set entries (told - 1) (record (entry_at entries (told - 1)) { after_on_line = after })

-- the row with this entry in this place, before those that it tells to be after it
unfoldable pub hooked : List Entry → ℕ → Entry → List Entry
hooked entries place entry =
    with_before_on_line
    (with_before_on_core (slice_set entries place entry) entry.after_on_core (place + 1))
    entry.after_on_line (place + 1)

-- an entry that stands for nothing, before the entry told
abbrev pub freed : Entry → ℕ → Entry
freed entry free = record entry { held = false; after_on_core = free }

-- the row with its entry in this place, the first of its core's list, taken off both lists and freed
unfoldable pub unhooked : List Entry → ℕ → ℕ → List Entry
unhooked entries place free =
    let entry = entry_at entries place in
    slice_set
    (with_before_on_line
    (with_after_on_line (with_before_on_core entries entry.after_on_core 0) entry.before_on_line entry.after_on_line)
    entry.after_on_line entry.before_on_line)
    place (freed entry free)

-- the entry stands for a line of this core and kind
abbrev pub is_of : Entry → ℕ → Kind → Bool
is_of entry core kind = entry.held && (nat_eq entry.core core && same_kind entry.kind kind)

-- the lines of a core and kind, one for each entry
unfoldable pub lines_among : List Entry → ℕ → Kind → List ℕ
lines_among [] core kind = []
lines_among (entry ∷ entries) core kind =
    if is_of entry core kind then entry.line ∷ lines_among entries core kind else lines_among entries core kind

-- the set of lines of a core and kind
abbrev pub lines_in : List Entry → ℕ → Kind → Lines
lines_in entries core kind = set.from_list (lines_among entries core kind)

-- the slot of a line that a core has written
unfoldable pub slot_among : List Entry → ℕ → ℕ → Option ℕ
slot_among [] core line = None
slot_among (entry ∷ entries) core line =
    if is_of entry core Write && nat_eq entry.line line then Some entry.slot else slot_among entries core line
