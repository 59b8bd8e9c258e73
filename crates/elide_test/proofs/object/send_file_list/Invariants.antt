use Rattle.std.proofs.Common.{take}
use Rattle.serde.specs.Event.{WritesEach}
use Rattle.serde_json.specs.Events.{SendsValue}
use Rattle.elide_test.specs.Object.{file_value}
use Rattle.elide_test.proofs.object.send_file_list.Given as goal

-- those so far were sent
abbrev pub invariant-loop-file : goal.invariant-loop-file
invariant-loop-file g l =
    WritesEach (λ file. SendsValue (file_value file)) (take l.file-index l.files) (g.S.Serializer.written l.initial.out)
    (g.S.Serializer.written l.out)
