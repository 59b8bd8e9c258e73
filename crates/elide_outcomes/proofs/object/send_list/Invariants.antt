use Rattle.std.proofs.Common.{take}
use Rattle.serde.specs.Event.{WritesEach}
use Rattle.serde_json.specs.Events.{SendsValue}
use Rattle.elide_outcomes.specs.Object.{outcome_value}
use Rattle.elide_outcomes.proofs.object.send_list.Given as goal

-- the outcomes so far were sent
abbrev pub invariant-loop-told : goal.invariant-loop-told
invariant-loop-told g l =
    WritesEach (λ told. SendsValue (outcome_value told)) (take l.told-index l.outcomes)
    (g.S.Serializer.written l.initial.out)
    (g.S.Serializer.written l.out)
