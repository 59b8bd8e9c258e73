use Rattle.std.proofs.Common.{rules, refl}
use Rattle.std.proofs.lemmas.Result.{on_ok_weaker}
use Rattle.serde.proofs.Events.{WritesEach-more, WritesSeq-ends}
use Rattle.serde_json.specs.Events.{SendsValue}
use Rattle.elide_object.proofs.Sending.{sent_list}
use Rattle.elide_outcomes.specs.Object.{outcome_value}
use Rattle.elide_outcomes.proofs.object.send_list.Goals as goal

pub loop-told-preserved : goal.loop-told-preserved
loop-told-preserved g c =
    WritesEach-more (λ told. SendsValue (outcome_value told)) c.args.outcomes.now c.loop-told.told-index
    c.told-item.result _ _ _ (search rules) (search rules) c.loop-told.invariant c.in_ok-send_outcome.ensures

pub returns : goal.returns
returns g c =
    on_ok_weaker c.end_seq.result
    (λ ended. sent_list outcome_value c.args.outcomes.now _ _
    (WritesSeq-ends (λ told. SendsValue (outcome_value told)) _ _ _ _ _ _ _ _ refl (search rules) (search rules)
    c.in_ok-begin_seq.ensures c.loop-told.invariant ended))
    c.end_seq.ensures
