-- Notes, and one more.
use Rattle.std.proofs.Common.{◌≡◌, ◌∙◌, Bool, List, [], ◌∷◌, ◌++◌, ap, append_assoc, append-nil, refl, sym}
use Rattle.page_run.specs.declared.window.Window.{Window}
use Rattle.elide_page.specs.Notes.{notes_text, piece_text, some_with}
use Rattle.elide_page.specs.declared.notes.Note.{Note}

-- whether one was written
abbrev pub some_behind : Window → Bool → List Note → Bool
some_behind window some [] = some
some_behind window some (note ∷ notes) = some_behind window (some_with window some note) notes

pub notes_and : (window : Window) (some : Bool) (notes : List Note) (note : Note) →
    notes_text window some (notes ++ note ∷ [])
    ≡ notes_text window some notes ++ piece_text window (some_behind window some notes) note
notes_and window some [] note = append-nil (piece_text window some note)
notes_and window some (first ∷ notes) note =
    ap (λ t. piece_text window some first ++ t) (notes_and window (some_with window some first) notes note)
    ∙ sym (append_assoc (piece_text window some first) (notes_text window (some_with window some first) notes)
    (piece_text window (some_behind window (some_with window some first) notes) note))

pub some_and : (window : Window) (some : Bool) (notes : List Note) (note : Note) →
    some_behind window some (notes ++ note ∷ []) ≡ some_with window (some_behind window some notes) note
some_and window some [] note = refl
some_and window some (first ∷ notes) note = some_and window (some_with window some first) notes note
