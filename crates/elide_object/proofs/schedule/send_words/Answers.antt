use Rattle.std.proofs.Common.{rules, refl}
use Rattle.std.proofs.lemmas.Result.{on_ok_weaker}
use Rattle.serde.proofs.Events.{WritesEach-more, WritesSeq-ends}
use Rattle.serde_json.specs.Events.{SendsValue}
use Rattle.elide_object.specs.Object.{word_value}
use Rattle.elide_object.proofs.Sending.{sent_list}
use Rattle.elide_object.proofs.schedule.send_words.Goals as goal

pub loop-pick-preserved : goal.loop-pick-preserved
loop-pick-preserved g c =
    WritesEach-more (λ pick. SendsValue (word_value pick)) _ _ _ _ _ _ (search rules) (search rules)
    c.loop-pick.invariant c.in_ok-send_word.ensures

pub returns : goal.returns
returns g c =
    on_ok_weaker c.end_seq.result
    (λ ended. sent_list word_value c.args.picks.now _ _
    (WritesSeq-ends (λ pick. SendsValue (word_value pick)) _ _ _ _ _ _ _ _ refl (search rules) (search rules)
    c.in_ok-begin_seq.ensures c.loop-pick.invariant ended))
    c.end_seq.ensures
