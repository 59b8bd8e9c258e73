use Rattle.std.proofs.Common.{take}
use Rattle.serde.specs.Event.{WritesEach}
use Rattle.serde_json.specs.Events.{SendsValue}
use Rattle.elide_test.specs.Object.{test_value}
use Rattle.elide_test.proofs.object.send_test_list.Given as goal

-- those so far were sent
abbrev pub invariant-loop-test : goal.invariant-loop-test
invariant-loop-test g l =
    WritesEach (λ test. SendsValue (test_value test)) (take l.test-index l.tests) (g.S.Serializer.written l.initial.out)
    (g.S.Serializer.written l.out)
