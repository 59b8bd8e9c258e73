use Rattle.std.proofs.Common.{take}
use Rattle.std.specs.List.{flat_map}
use Rattle.text_out.specs.Writing.{Wrote}
use Rattle.elide_outcomes.specs.Lines.{item_text}
use Rattle.elide_outcomes.proofs.report.tell_values.Given as goal

-- the values so far were told
abbrev pub invariant-loop-value : goal.invariant-loop-value
invariant-loop-value g l =
    Wrote (g.O.Out.device l.initial.out) (g.O.Out.device l.out)
    (flat_map (item_text l.labels) (take l.value-index l.values))
