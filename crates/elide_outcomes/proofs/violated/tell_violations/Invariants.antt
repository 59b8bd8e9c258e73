use Rattle.std.proofs.Common.{take}
use Rattle.text_out.specs.Writing.{Wrote}
use Rattle.elide_outcomes.specs.Violated.{violation_lines}
use Rattle.elide_outcomes.proofs.violated.tell_violations.Given as goal

-- the checks so far were told
abbrev pub invariant-loop-told : goal.invariant-loop-told
invariant-loop-told g l =
    Wrote (g.O.Out.device l.initial.out) (g.O.Out.device l.out)
    (violation_lines l.options (take l.told-index l.violations))
