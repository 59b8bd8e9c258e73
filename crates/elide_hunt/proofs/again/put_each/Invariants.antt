use Rattle.std.proofs.Common.{take}
use Rattle.std.specs.List.{flat_map}
use Rattle.text_out.specs.Writing.{Wrote}
use Rattle.elide_hunt.specs.Again.{demand_text}
use Rattle.elide_hunt.proofs.again.put_each.Given as goal

-- the values so far were written
abbrev pub invariant-loop-value : goal.invariant-loop-value
invariant-loop-value g l =
    Wrote (g.O.Out.device l.initial.out) (g.O.Out.device l.out)
    (flat_map (demand_text l.name) (take l.value-index l.values))
