use Rattle.std.proofs.Common.{rules, refl}
use Rattle.std.proofs.lemmas.Result.{on_ok_weaker}
use Rattle.serde.proofs.Events.{WritesEach-more, WritesSeq-ends}
use Rattle.serde_json.specs.Events.{SendsValue}
use Rattle.elide_object.proofs.Sending.{sent_list}
use Rattle.elide_test.specs.Object.{file_value}
use Rattle.elide_test.proofs.object.send_file_list.Goals as goal

pub loop-file-preserved : goal.loop-file-preserved
loop-file-preserved g c =
    WritesEach-more (λ file. SendsValue (file_value file)) c.args.files.now c.loop-file.file-index
    c.file-item.result _ _ _
    (search rules) (search rules) c.loop-file.invariant c.in_ok-send_file.ensures

pub returns : goal.returns
returns g c =
    on_ok_weaker c.end_seq.result
    (λ ended. sent_list file_value c.args.files.now _ _
    (WritesSeq-ends (λ file. SendsValue (file_value file)) _ _ _ _ _ _ _ _ refl (search rules) (search rules)
    c.in_ok-begin_seq.ensures c.loop-file.invariant ended))
    c.end_seq.ensures
