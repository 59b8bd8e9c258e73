use Rattle.std.proofs.Common.{◌≡◌, false, take}
use Rattle.text_out.specs.Writing.{Wrote}
use Rattle.elide_page.specs.Notes.{notes_text}
use Rattle.elide_page.proofs.Noting.{some_behind}
use Rattle.elide_page.proofs.notes.write_notes.Given as goal

-- the notes so far were written
abbrev pub invariant-loop-note : goal.invariant-loop-note
invariant-loop-note g l = record {
  wrote : Wrote (g.O.Out.device l.initial.out) (g.O.Out.device l.out)
      (notes_text l.window false (take l.note-index l.notes));
  some : l.some ≡ some_behind l.window false (take l.note-index l.notes);
}
