use Rattle.std.proofs.Common.{take}
use Rattle.serde.specs.Event.{WritesEach}
use Rattle.serde_json.specs.Events.{SendsValue}
use Rattle.elide_json.specs.Memory.{show_row}
use Rattle.elide_json.proofs.memory.send_show_list.Given as goal

-- the rows so far were sent
abbrev pub invariant-loop-row : goal.invariant-loop-row
invariant-loop-row g l =
    WritesEach (λ row. SendsValue (show_row row)) (take l.row-index l.rows) (g.S.Serializer.written l.initial.out)
    (g.S.Serializer.written l.out)
