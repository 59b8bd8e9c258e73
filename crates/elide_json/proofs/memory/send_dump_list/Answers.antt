use Rattle.std.proofs.Common.{rules, refl}
use Rattle.std.proofs.lemmas.Result.{on_ok_weaker}
use Rattle.serde.proofs.Events.{WritesEach-more, WritesSeq-ends}
use Rattle.serde_json.specs.Events.{SendsValue}
use Rattle.elide_object.proofs.Sending.{sent_list}
use Rattle.elide_json.specs.Memory.{dump_row}
use Rattle.elide_json.proofs.memory.send_dump_list.Goals as goal

pub loop-row-preserved : goal.loop-row-preserved
loop-row-preserved g c =
    WritesEach-more (λ row. SendsValue (dump_row row)) c.args.rows.now c.loop-row.row-index c.row-item.result _ _
    _ (search rules)
    (search rules) c.loop-row.invariant c.in_ok-send_dump.ensures

pub returns : goal.returns
returns g c =
    on_ok_weaker c.end_seq.result
    (λ ended. sent_list dump_row c.args.rows.now _ _
    (WritesSeq-ends (λ row. SendsValue (dump_row row)) _ _ _ _ _ _ _ _ refl (search rules) (search rules)
    c.in_ok-begin_seq.ensures
    c.loop-row.invariant ended))
    c.end_seq.ensures
