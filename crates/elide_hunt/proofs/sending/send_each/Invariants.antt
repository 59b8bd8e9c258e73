use Rattle.std.proofs.Common.{take}
use Rattle.serde.specs.Event.{WritesEach}
use Rattle.serde_json.specs.Events.{SendsValue}
use Rattle.elide_hunt.specs.Object.{late_value}
use Rattle.elide_hunt.proofs.sending.send_each.Given as goal

-- those so far were sent
abbrev pub invariant-loop-late : goal.invariant-loop-late
invariant-loop-late g l =
    WritesEach (λ late. SendsValue (late_value late)) (take l.late-index l.lates) (g.S.Serializer.written l.initial.out)
    (g.S.Serializer.written l.out)
