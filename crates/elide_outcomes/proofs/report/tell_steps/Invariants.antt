use Rattle.std.proofs.Common.{take}
use Rattle.std.specs.List.{flat_map}
use Rattle.text_out.specs.Writing.{Wrote}
use Rattle.elide_outcomes.specs.Lines.{step_text}
use Rattle.elide_outcomes.proofs.report.tell_steps.Given as goal

-- the steps so far were told
abbrev pub invariant-loop-pick : goal.invariant-loop-pick
invariant-loop-pick g l =
    Wrote (g.O.Out.device l.initial.out) (g.O.Out.device l.out) (flat_map step_text (take l.pick-index l.picks))
