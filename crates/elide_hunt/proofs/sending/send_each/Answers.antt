use Rattle.std.proofs.Common.{rules, refl}
use Rattle.std.proofs.lemmas.Result.{on_ok_weaker}
use Rattle.serde.proofs.Events.{WritesEach-more, WritesSeq-ends}
use Rattle.serde_json.specs.Events.{SendsValue}
use Rattle.elide_hunt.specs.Object.{late_value}
use Rattle.elide_object.proofs.Sending.{sent_list}
use Rattle.elide_hunt.proofs.sending.send_each.Goals as goal

pub loop-late-preserved : goal.loop-late-preserved
loop-late-preserved g c =
    WritesEach-more (λ late. SendsValue (late_value late)) c.args.lates.now c.loop-late.late-index
    c.late-item.result _ _ _ (search rules) (search rules) c.loop-late.invariant c.in_ok-send_late.ensures

pub returns : goal.returns
returns g c =
    on_ok_weaker c.end_seq.result
    (λ ended. sent_list late_value c.args.lates.now _ _
    (WritesSeq-ends (λ late. SendsValue (late_value late)) _ _ _ _ _ _ _ _ refl (search rules) (search rules)
    c.in_ok-begin_seq.ensures c.loop-late.invariant ended))
    c.end_seq.ensures
