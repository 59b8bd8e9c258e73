use Rattle.std.specs.List.{range_with_len}
use Rattle.serde.specs.Event.{WritesEach}
use Rattle.serde_json.specs.Events.{SendsValue}
use Rattle.elide_json.specs.Cores.{core_value}
use Rattle.elide_json.proofs.cores.send_list.Given as goal

-- the cores so far were sent
abbrev pub invariant-loop-core : goal.invariant-loop-core
invariant-loop-core g l =
    WritesEach (λ core. SendsValue (core_value l.machine core)) (range_with_len 0 l.core)
    (g.S.Serializer.written l.initial.out) (g.S.Serializer.written l.out)
