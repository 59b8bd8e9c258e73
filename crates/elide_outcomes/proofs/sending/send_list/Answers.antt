use Rattle.std.proofs.Common.{rules, refl}
use Rattle.std.proofs.lemmas.Result.{on_ok_weaker}
use Rattle.serde.proofs.Events.{WritesEach-more, WritesSeq-ends}
use Rattle.serde_json.specs.Events.{SendsValue}
use Rattle.elide_object.proofs.Sending.{sent_list}
use Rattle.elide_outcomes.specs.Object.{violation_value}
use Rattle.elide_outcomes.proofs.sending.send_list.Goals as goal

pub loop-told-preserved : goal.loop-told-preserved
loop-told-preserved g c =
    let options = c.args.options.now in
    WritesEach-more (λ told. SendsValue (violation_value options told)) c.args.violations.now c.loop-told.told-index
    c.told-item.result _ _ _ (search rules) (search rules) c.loop-told.invariant c.in_ok-send_violation.ensures

pub returns : goal.returns
returns g c =
    let options = c.args.options.now in
    on_ok_weaker c.end_seq.result
    (λ ended. sent_list (violation_value options) c.args.violations.now _ _
    (WritesSeq-ends (λ told. SendsValue (violation_value options told)) _ _ _ _ _ _ _ _ refl (search rules)
    (search rules) c.in_ok-begin_seq.ensures c.loop-told.invariant ended))
    c.end_seq.ensures
