use Rattle.std.proofs.Common.{take}
use Rattle.std.specs.List.{flat_map}
use Rattle.text_out.specs.Writing.{Wrote}
use Rattle.elide_hunt.specs.Lates.{late_line}
use Rattle.elide_hunt.proofs.late.put_lates.Given as goal

-- the lines so far were written
abbrev pub invariant-loop-late : goal.invariant-loop-late
invariant-loop-late g l =
    Wrote (g.O.Out.device l.initial.out) (g.O.Out.device l.out) (flat_map late_line (take l.late-index l.lates))
