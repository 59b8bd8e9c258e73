use Rattle.std.proofs.Common.{◌≡◌, take}
use Rattle.text_out.specs.Writing.{Wrote}
use Rattle.elide_test.specs.Tap.{count_of, files_text}
use Rattle.elide_test.proofs.tap.tell_each.Given as goal

-- the files so far were told, and so many tests are theirs
abbrev pub invariant-loop-file : goal.invariant-loop-file
invariant-loop-file g l =
    (l.before ≡ count_of (take l.file-index l.files)) ×
    Wrote (g.O.Out.device l.initial.out) (g.O.Out.device l.out) (files_text 0 (take l.file-index l.files))
