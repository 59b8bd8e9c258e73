use Rattle.std.proofs.Common.{take}
use Rattle.serde.specs.Event.{WritesEach}
use Rattle.serde_json.specs.Events.{SendsValue}
use Rattle.elide_object.specs.Object.{word_value}
use Rattle.elide_object.proofs.schedule.send_words.Given as goal

-- the words so far were sent
abbrev pub invariant-loop-pick : goal.invariant-loop-pick
invariant-loop-pick g l =
    WritesEach (λ pick. SendsValue (word_value pick)) (take l.pick-index l.picks) (g.S.Serializer.written l.initial.out)
    (g.S.Serializer.written l.out)
