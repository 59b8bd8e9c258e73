use Rattle.std.proofs.Common.{take}
use Rattle.elide_args.specs.Asked.{texts_of}
use Rattle.elide_page.specs.Notes.{AreNotes}
use Rattle.elide_page.proofs.notes.notes_of.Given as goal

-- the notes so far are those of the words so far
abbrev pub invariant-loop-word : goal.invariant-loop-word
invariant-loop-word l = AreNotes (texts_of (take l.word-index l.words)) l.notes.items
