use Rattle.std.proofs.Common.{take}
use Rattle.text_out.specs.Writing.{Wrote}
use Rattle.elide_asm.specs.Labelled.{mark_lines}
use Rattle.elide_asm.proofs.listing.write_names.Given as goal

-- the lines of the labels so far were written
abbrev pub invariant-loop-mark : goal.invariant-loop-mark
invariant-loop-mark g l =
    Wrote (g.O.Out.device l.initial.out) (g.O.Out.device l.out) (mark_lines (take l.mark-index l.marks))
