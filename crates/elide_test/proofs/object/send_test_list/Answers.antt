use Rattle.std.proofs.Common.{rules, refl}
use Rattle.std.proofs.lemmas.Result.{on_ok_weaker}
use Rattle.serde.proofs.Events.{WritesEach-more, WritesSeq-ends}
use Rattle.serde_json.specs.Events.{SendsValue}
use Rattle.elide_object.proofs.Sending.{sent_list}
use Rattle.elide_test.specs.Object.{test_value}
use Rattle.elide_test.proofs.object.send_test_list.Goals as goal

pub loop-test-preserved : goal.loop-test-preserved
loop-test-preserved g c =
    WritesEach-more (λ test. SendsValue (test_value test)) c.args.tests.now c.loop-test.test-index
    c.test-item.result _ _ _
    (search rules) (search rules) c.loop-test.invariant c.in_ok-send_test.ensures

pub returns : goal.returns
returns g c =
    on_ok_weaker c.end_seq.result
    (λ ended. sent_list test_value c.args.tests.now _ _
    (WritesSeq-ends (λ test. SendsValue (test_value test)) _ _ _ _ _ _ _ _ refl (search rules) (search rules)
    c.in_ok-begin_seq.ensures c.loop-test.invariant ended))
    c.end_seq.ensures
