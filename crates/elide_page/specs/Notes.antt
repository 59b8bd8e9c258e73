-- The notes of a page (docs/FORMATS.md, "Pages").
use Rattle.std.specs.Prelude.{◌≡◌, ℕ, ◌-◌, ◌||◌, ◌==◌, Bool, true, List, [], ◌∷◌, ◌++◌, Option, Some, None, codes}
use Rattle.std.specs.Prelude.{decimal, if◌then◌else◌, length, map, nat_lt}
use Rattle.std.specs.List.{after_first, before_first, position_or_len}
use Rattle.std.specs.Option.{option_map}
use Rattle.elide_program.specs.Settings.{number_said}
use Rattle.page_run.specs.declared.window.Window.{Window}
use Rattle.page_text.specs.Commas.{comma_if}
use Rattle.page_text.specs.Escaped.{string_text}
use Rattle.elide_page.specs.declared.notes.Note.{Note}

-- ---- what is asked for

abbrev pub is_colon : ℕ → Bool
is_colon byte = byte == 58

-- `STEP:TEXT`: the number before the first colon, and what stands behind that
abbrev pub note_said : List ℕ → Option (ℕ × List ℕ)
note_said word =
    if nat_lt (position_or_len is_colon word) (length word)
    then option_map (λ step. (step, after_first is_colon word)) (number_said (Some (before_first is_colon word)))
    else None

-- each note is what its word says
abbrev pub AreNotes : List (List ℕ) → List Note → Type 0
AreNotes words notes = map note_said words ≡ map (λ note. Some (note.step, note.text.now)) notes

-- behind the last step of a run of so many
abbrev pub is_behind : ℕ → Note → Bool
is_behind total note = nat_lt total note.step

-- ---- what is written

-- at none of the page's steps, nor at the state before the first
abbrev pub is_outside : Window → Note → Bool
is_outside window note = nat_lt note.step window.from || nat_lt window.to note.step

-- its step as the page counts, and its text
abbrev pub note_text : Window → Note → List ℕ
note_text window note =
    codes "[" ++ (decimal (note.step - window.from) ++ (codes "," ++ (string_text note.text.now 600 ++ codes "]")))

-- what is written of a note behind others, and whether one was written then: none is that stands outside of the page
abbrev pub piece_text : Window → Bool → Note → List ℕ
piece_text window some note = if is_outside window note then [] else comma_if some ++ note_text window note

abbrev pub some_with : Window → Bool → Note → Bool
some_with window some note = if is_outside window note then some else true

-- those of the page, with commas between, and before the first where there was another
abbrev pub notes_text : Window → Bool → List Note → List ℕ
notes_text window some [] = []
notes_text window some (note ∷ notes) =
    piece_text window some note ++ notes_text window (some_with window some note) notes
