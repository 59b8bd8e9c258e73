use Rattle.std.proofs.Common.{take}
use Rattle.text_out.specs.Writing.{Wrote}
use Rattle.elide_outcomes.specs.Lines.{outcome_lines}
use Rattle.elide_outcomes.proofs.report.tell_outcomes.Given as goal

-- the outcomes so far were told
abbrev pub invariant-loop-told : goal.invariant-loop-told
invariant-loop-told g l =
    Wrote (g.O.Out.device l.initial.out) (g.O.Out.device l.out) (outcome_lines l.labels (take l.told-index l.outcomes))
