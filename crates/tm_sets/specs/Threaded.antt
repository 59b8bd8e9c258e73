-- How a directory keeps its triples: which entries stand on which list.
use Rattle.std.specs.Prelude.{ℕ, ◌≡◌, ◌+◌, ◌-◌, ◌*◌, ◌<◌, ◌≤◌, Bool, true, false, ◌&&◌, ◌||◌, not, nat_eq, List}
use Rattle.std.specs.Prelude.{length, sum, slice_index, slice_set}
use Rattle.std.specs.FinSet as set
use Rattle.tm_sets.specs.declared.interface.Kind.{Kind}
use Rattle.tm_sets.specs.declared.interface.Kind.TheVariants.{Read, Write}
use Rattle.tm_sets.specs.declared.row.Entry.{Entry}
use Rattle.tm_sets.specs.Content.{Content, by_kind, same_kind, other_on_line, other_writes_line}
use Rattle.tm_sets.specs.Count.{count_below}
use Rattle.tm_sets.specs.Ranked.{IsRanked, GoesBack}
use Rattle.tm_sets.specs.Row.{entry_at, lines_in, slot_among}

-- the row, the heads of the lists, how many lines a core has read and written
pub record Rows : Type 0 where
  pub entries : List Entry
  pub core_heads : List ℕ
  pub line_heads : List ℕ
  pub free : ℕ
  pub reads : List ℕ
  pub writes : List ℕ
  pub line_count : ℕ
  pub read_lines : ℕ
  pub write_lines : ℕ

abbrev pub held : List Entry → ℕ → Bool
held entries place = (entry_at entries place).held

-- the entry stands for a triple with this line, with this core, and for none
abbrev pub OnLine : List Entry → ℕ → ℕ → Type 0
OnLine entries line place =
    (place < length entries) × (held entries place ≡ true) × ((entry_at entries place).line ≡ line)

abbrev pub OnCore : List Entry → ℕ → ℕ → Type 0
OnCore entries core place =
    (place < length entries) × (held entries place ≡ true) × ((entry_at entries place).core ≡ core)

abbrev pub IsFree : List Entry → ℕ → Type 0
IsFree entries place = (place < length entries) × (held entries place ≡ false)

abbrev pub after_on_line : List Entry → ℕ → ℕ
after_on_line entries place = (entry_at entries place).after_on_line

abbrev pub before_on_line : List Entry → ℕ → ℕ
before_on_line entries place = (entry_at entries place).before_on_line

abbrev pub after_on_core : List Entry → ℕ → ℕ
after_on_core entries place = (entry_at entries place).after_on_core

abbrev pub before_on_core : List Entry → ℕ → ℕ
before_on_core entries place = (entry_at entries place).before_on_core

-- Each entry is on its core's list and its line's list, or on the free list. On each list those that came later are
-- before those that came earlier, and of the lines that a core has written the later has the higher slot.
pub record AreThreaded (r : Rows) (rank : ℕ → ℕ) (top : ℕ) : Type 0 where
  pub below_top : (e : ℕ) → rank e < top
  pub lines : (line : ℕ) → line < r.line_count
      → IsRanked (OnLine r.entries line) (slice_index r.line_heads line) (after_on_line r.entries) rank
  pub lines_back : (line : ℕ) → line < r.line_count
      → GoesBack (OnLine r.entries line) (slice_index r.line_heads line)
      (after_on_line r.entries) (before_on_line r.entries)
  pub cores : (core : ℕ) → core < length r.core_heads
      → IsRanked (OnCore r.entries core) (slice_index r.core_heads core) (after_on_core r.entries) rank
  pub cores_back : (core : ℕ) → core < length r.core_heads
      → GoesBack (OnCore r.entries core) (slice_index r.core_heads core)
      (after_on_core r.entries) (before_on_core r.entries)
  pub free : IsRanked (IsFree r.entries) r.free (after_on_core r.entries) rank
  pub slots : (core e f : ℕ) → OnCore r.entries core e → OnCore r.entries core f
      → (entry_at r.entries e).kind ≡ Write → (entry_at r.entries f).kind ≡ Write
      → rank f < rank e → (entry_at r.entries f).slot < (entry_at r.entries e).slot

-- No two entries stand for one triple, and the counts are those of the lines.
pub record AreCounted (r : Rows) : Type 0 where
  pub core : (e : ℕ) → e < length r.entries → held r.entries e ≡ true
      → (entry_at r.entries e).core < length r.core_heads
  pub line : (e : ℕ) → e < length r.entries → held r.entries e ≡ true → (entry_at r.entries e).line < r.line_count
  pub once : (e f : ℕ) → e < length r.entries → f < length r.entries → held r.entries e ≡ true → held r.entries f ≡ true
      → (entry_at r.entries e).core ≡ (entry_at r.entries f).core
      → (entry_at r.entries e).kind ≡ (entry_at r.entries f).kind
      → (entry_at r.entries e).line ≡ (entry_at r.entries f).line → e ≡ f
  pub reads : (core : ℕ) → slice_index r.reads core ≡ set.len (lines_in r.entries core Read)
  pub writes : (core : ℕ) → slice_index r.writes core ≡ set.len (lines_in r.entries core Write)
  pub read_room : (core : ℕ) → slice_index r.reads core ≤ r.read_lines
  pub write_room : (core : ℕ) → slice_index r.writes core ≤ r.write_lines
  pub all : count_below (held r.entries) (length r.entries) ≡ sum r.reads + sum r.writes
  pub slot : (core e : ℕ) → OnCore r.entries core e → (entry_at r.entries e).kind ≡ Write
      → (entry_at r.entries e).slot < slice_index r.writes core

-- the row has an entry for each line that all cores have room for
pub record AreSized (r : Rows) : Type 0 where
  pub entries : length r.entries ≡ length r.core_heads * (r.read_lines + r.write_lines)
  pub lines : length r.line_heads ≡ r.line_count
  pub reads : length r.reads ≡ length r.core_heads
  pub writes : length r.writes ≡ length r.core_heads

abbrev pub IsThreaded : Rows → Type 0
IsThreaded r = ∥ ((rank : ℕ → ℕ) × (top : ℕ) × AreThreaded r rank top) ∥₁

-- what the rows contain
abbrev pub threaded_content : Rows → Content
threaded_content r = record {
  lines = lines_in r.entries;
  slots = slot_among r.entries;
  fixed = record { room = by_kind r.read_lines r.write_lines; cores = length r.core_heads; line_count = r.line_count };
}

-- one line more of a core, and one fewer
abbrev pub more : List ℕ → ℕ → List ℕ
more counts core = slice_set counts core (slice_index counts core + 1)

abbrev pub fewer : List ℕ → ℕ → List ℕ
fewer counts core = slice_set counts core (slice_index counts core - 1)

-- a count of lines of the one kind, where a line of this kind comes or goes
abbrev pub if_read : Kind → List ℕ → List ℕ → List ℕ
if_read Read changed same = changed
if_read Write changed same = same

abbrev pub if_written : Kind → List ℕ → List ℕ → List ℕ
if_written Read changed same = same
if_written Write changed same = changed

abbrev pub rows : List Entry → List ℕ → List ℕ → ℕ → List ℕ → List ℕ → ℕ → ℕ → ℕ → Rows
rows entries core_heads line_heads free reads writes line_count read_lines write_lines = record {
  entries = entries;
  core_heads = core_heads;
  line_heads = line_heads;
  free = free;
  reads = reads;
  writes = writes;
  line_count = line_count;
  read_lines = read_lines;
  write_lines = write_lines;
}

-- the entry stands for a triple with this line
abbrev pub on_line : List Entry → ℕ → ℕ → Bool
on_line entries line place = held entries place && nat_eq (entry_at entries place).line line

-- how many entries stand on a line's list
abbrev pub entries_on : List Entry → ℕ → ℕ
entries_on entries line = count_below (on_line entries line) (length entries)

-- the entry's core is another one than this, and where only those that wrote are asked for it wrote the line
abbrev pub is_asked : Entry → ℕ → Bool → Bool
is_asked entry core written = not (nat_eq entry.core core) && (not written || same_kind entry.kind Write)

-- core k is another core, and has the line, or wrote it
abbrev pub asked : Content → Bool → ℕ → ℕ → ℕ → Bool
asked content true line core k = other_writes_line content line core k
asked content false line core k = other_on_line content line core k
