use Rattle.std.proofs.Common.{◌≡◌, ◌∙◌, ℕ, ◌+◌, Bool, false, List, [], ◌∷◌, ◌++◌, ap, subst, sym, take}
use Rattle.std.proofs.lemmas.List.{take_more}
use Rattle.std.specs.Prelude.{slice_index_or}
use Rattle.text_out.proofs.Writing.{wrote_then}
use Rattle.text_out.specs.Writing.{Wrote}
use Rattle.elide_page.specs.Notes.{notes_text, piece_text, some_with}
use Rattle.elide_page.specs.declared.notes.Note.{Note}
use Rattle.elide_page.proofs.Noting.{notes_and, some_and, some_behind}
use Rattle.elide_page.proofs.notes.write_notes.Goals as goal

pub loop-note-preserved : goal.loop-note-preserved
loop-note-preserved g c =
    let window = c.args.window in
    let notes : List Note = c.args.notes.now in
    let i = c.loop-note.note-index in
    let none : Note = record { step = 0; text = record { ref_ptr = (0, 0); now = [] } } in
    let note : Note = slice_index_or notes i none in
    let more : take (i + 1) notes ≡ take i notes ++ note ∷ [] = take_more notes i none c.loop-note-test.true in
    let text :
    notes_text window false (take i notes) ++ piece_text window c.loop-note.some note
    ≡ notes_text window false (take (i + 1) notes) =
    ap (λ (some : Bool). notes_text window false (take i notes) ++ piece_text window some note)
    c.loop-note.invariant.some
    ∙ sym (notes_and window false (take i notes) note) ∙ ap (notes_text window false) (sym more) in
    record {
      wrote = subst (λ (t : List ℕ). Wrote (g.O.Out.device c.args.out.now) (g.O.Out.device c.write_one.new.out) t) text
          (wrote_then c.loop-note.invariant.wrote c.in_ok-some.ensures.text);
      some = c.in_ok-some.ensures.some ∙ ap (λ (some : Bool). some_with window some note) c.loop-note.invariant.some
          ∙ sym (some_and window false (take i notes) note) ∙ ap (some_behind window false) (sym more);
    }
