use Rattle.std.proofs.Common.{take}
use Rattle.serde.specs.Event.{WritesEach}
use Rattle.serde_json.specs.Events.{SendsValue}
use Rattle.elide_outcomes.specs.Object.{stop_value}
use Rattle.elide_outcomes.proofs.object.send_stop_list.Given as goal

-- the stops so far were sent
abbrev pub invariant-loop-told : goal.invariant-loop-told
invariant-loop-told g l =
    WritesEach (λ told. SendsValue (stop_value told)) (take l.told-index l.stops) (g.S.Serializer.written l.initial.out)
    (g.S.Serializer.written l.out)
