use Rattle.std.proofs.Common.{take}
use Rattle.serde.specs.Event.{WritesEach}
use Rattle.serde_json.specs.Events.{SendsValue}
use Rattle.elide_json.specs.Cores.{store_value}
use Rattle.elide_json.proofs.cores.send_stores.Given as goal

-- the stores so far were sent
abbrev pub invariant-loop-store : goal.invariant-loop-store
invariant-loop-store g l =
    WritesEach (λ store. SendsValue (store_value store)) (take l.store-index l.pending)
    (g.S.Serializer.written l.initial.out) (g.S.Serializer.written l.out)
