use Rattle.std.proofs.Common.{take}
use Rattle.serde.specs.Event.{WritesEach}
use Rattle.serde_json.specs.Events.{SendsValue}
use Rattle.elide_outcomes.specs.Object.{violation_value}
use Rattle.elide_outcomes.proofs.sending.send_list.Given as goal

-- the checks so far were sent
abbrev pub invariant-loop-told : goal.invariant-loop-told
invariant-loop-told g l =
    WritesEach (λ told. SendsValue (violation_value l.options told)) (take l.told-index l.violations)
    (g.S.Serializer.written l.initial.out)
    (g.S.Serializer.written l.out)
