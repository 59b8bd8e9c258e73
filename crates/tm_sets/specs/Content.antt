-- The read sets and write sets of all cores, as one value (SDM volume 1, chapter "Programming with Intel Transactional
-- Synchronization Extensions").
use Rattle.std.specs.Prelude.{ℕ, ◌≡◌, ◌+◌, ◌<◌, Bool, true, false, ◌&&◌, ◌||◌, not, nat_eq, nat_le, if◌then◌else◌}
use Rattle.std.specs.Prelude.{Option, Some, None, is_some}
use Rattle.tm_sets.specs.LineSet.{Lines}
use Rattle.tm_sets.specs.Count.{count_below}
use Rattle.std.specs.Int.{bit_at}
use Rattle.std.specs.FinSet as set
use Rattle.tm_sets.specs.declared.interface.Kind.{Kind}
use Rattle.tm_sets.specs.declared.interface.Kind.TheVariants.{Read, Write}

-- what stays: how many lines of each kind a core has room for, and the numbers of cores and of lines of memory
pub record Fixed : Type 0 where
  pub room : Kind → ℕ
  pub cores : ℕ
  pub line_count : ℕ

-- the lines of each core and kind, and the slot of each line that a core has written
pub record Content : Type 0 where
  pub lines : ℕ → Kind → Lines
  pub slots : ℕ → ℕ → Option ℕ
  pub fixed : Fixed

abbrev pub same_kind : Kind → Kind → Bool
same_kind Read Read = true
same_kind Write Write = true
same_kind Read Write = false
same_kind Write Read = false

-- a number for each kind
abbrev pub by_kind : ℕ → ℕ → Kind → ℕ
by_kind read write Read = read
by_kind read write Write = write

-- the sets of so many cores and lines of memory, with room for so many lines: no line of any core
abbrev pub empty_content : ℕ → ℕ → ℕ → ℕ → Content
empty_content cores line_count read_lines write_lines = record {
  lines = λ _ _. set.empty;
  slots = λ _ _. None;
  fixed = record { room = by_kind read_lines write_lines; cores = cores; line_count = line_count };
}

-- the core's set of the kind has the line too, and lines have these slots
abbrev pub with_line : Content → ℕ → Kind → ℕ → (ℕ → ℕ → Option ℕ) → Content
with_line content core kind line slots = record {
  lines = λ other other_kind. if nat_eq other core && same_kind other_kind kind
      then set.insert (content.lines other other_kind) line
      else content.lines other other_kind;
  slots = slots;
  fixed = content.fixed;
}

-- the core has no line of either kind, and so no slot in use
abbrev pub without_core : Content → ℕ → Content
without_core content core = record {
  lines = λ other kind. if nat_eq other core then set.empty else content.lines other kind;
  slots = λ other. if nat_eq other core then (λ _. None) else content.slots other;
  fixed = content.fixed;
}

-- the line is new, and there is no room for it
abbrev pub is_full : Content → ℕ → Kind → ℕ → Bool
is_full content core kind line =
    not (set.contains (content.lines core kind) line)
    && nat_le (content.fixed.room kind) (set.len (content.lines core kind))

-- the core has the line, of either kind
abbrev pub on_line : Content → ℕ → ℕ → Bool
on_line content core line = set.contains (content.lines core Read) line || set.contains (content.lines core Write) line

-- the core has the line in its write set
abbrev pub writes_line : Content → ℕ → ℕ → Bool
writes_line content core line = set.contains (content.lines core Write) line

-- core k is another core than this one, and has the line
abbrev pub other_on_line : Content → ℕ → ℕ → ℕ → Bool
other_on_line content line core k = not (nat_eq k core) && on_line content k line

-- core k is another core than this one, and has the line in its write set
abbrev pub other_writes_line : Content → ℕ → ℕ → ℕ → Bool
other_writes_line content line core k = not (nat_eq k core) && writes_line content k line

-- bit k of a mask
abbrev pub bit : ℕ → ℕ → Bool
bit mask k = nat_eq (bit_at mask k) 1

-- of so many bits of the mask, those are set that are wanted
abbrev pub IsMaskOf : ℕ → ℕ → (ℕ → Bool) → Type 0
IsMaskOf mask count wanted = (k : ℕ) → k < count → bit mask k ≡ wanted k

-- how many triples have the line
abbrev pub triples_on : Content → ℕ → ℕ
triples_on content line =
    count_below (λ core. set.contains (content.lines core Read) line) content.fixed.cores
    + count_below (λ core. set.contains (content.lines core Write) line) content.fixed.cores

-- each line that a core has written has a slot, and no other line has one; it is below the core's room, and another one
-- for each line of a core
pub record AreSlots (content : Content) : Type 0 where
  pub there : (core line : ℕ) → core < content.fixed.cores
      → is_some (content.slots core line) ≡ set.contains (content.lines core Write) line
  pub below : (core line slot : ℕ) → core < content.fixed.cores → content.slots core line ≡ Some slot
      → slot < content.fixed.room Write
  pub apart : (core line other slot : ℕ) → core < content.fixed.cores → content.slots core line ≡ Some slot
      → content.slots core other ≡ Some slot → line ≡ other
