-- What plain lists of lines contain.
use Rattle.std.specs.Prelude.{ℕ, ◌≡◌, ◌<◌, Bool, ◌&&◌, ◌||◌, not, nat_eq, List, length, slice_index_or, ◌≤◌, Option}
use Rattle.std.specs.FinSet as set
use Rattle.tm_sets.specs.declared.interface.Kind.{Kind}
use Rattle.tm_sets.specs.declared.interface.Kind.TheVariants.{Read, Write}
use Rattle.tm_sets.specs.LineSet.{BoundedLines, Lines, no_line_set, lines_in_set, place_of}
use Rattle.tm_sets.specs.Content.{Content, by_kind}

abbrev pub line_set_at : List BoundedLines → ℕ → BoundedLines
line_set_at sets core = slice_index_or sets core no_line_set

abbrev pub lines_at : List BoundedLines → List BoundedLines → ℕ → Kind → Lines
lines_at reads writes core Read = lines_in_set (line_set_at reads core)
lines_at reads writes core Write = lines_in_set (line_set_at writes core)

-- the place of a line among the lines that a core has written
abbrev pub plain_slots : List BoundedLines → ℕ → ℕ → Option ℕ
plain_slots writes core = place_of (line_set_at writes core).order

abbrev pub plain_content : List BoundedLines → List BoundedLines → ℕ → ℕ → ℕ → Content
plain_content reads writes line_count read_lines write_lines = record {
  lines = lines_at reads writes;
  slots = plain_slots writes;
  fixed = record { room = by_kind read_lines write_lines; cores = length reads; line_count = line_count };
}

-- each core has room for so many lines
abbrev pub HaveRoom : List BoundedLines → ℕ → Type 0
HaveRoom sets room = (core : ℕ) → core < length sets → (line_set_at sets core).room ≡ room

-- each core has so many lines at most
abbrev pub AreWithin : List BoundedLines → ℕ → Type 0
AreWithin sets room = (core : ℕ) → core < length sets → length (line_set_at sets core).order ≤ room

-- core k is not this core, and has the line
abbrev pub is_other : List BoundedLines → List BoundedLines → ℕ → ℕ → ℕ → Bool
is_other reads writes line core k =
    not (nat_eq k core)
    && (set.contains (lines_in_set (line_set_at reads k)) line
    || set.contains (lines_in_set (line_set_at writes k)) line)

-- core k is not this core, and has the line in its write set
abbrev pub is_writer : List BoundedLines → ℕ → ℕ → ℕ → Bool
is_writer writes line core k = not (nat_eq k core) && set.contains (lines_in_set (line_set_at writes k)) line
