use Rattle.std.proofs.Common.{◌≡◌, rules, refl, subst}
use Rattle.std.proofs.lemmas.Result.{on_ok_weaker}
use Rattle.serde.proofs.Events.{WritesEach-more, WritesSeq-ends}
use Rattle.serde_json.specs.Events.{SendsValue}
use Rattle.tm_core.specs.Theorem.{pending_at}
use Rattle.tm_model.specs.State.{Pending}
use Rattle.elide_object.proofs.Sending.{sent_list}
use Rattle.elide_json.specs.Cores.{store_value, stores_value}
use Rattle.elide_json.proofs.cores.send_stores.Goals as goal

pub loop-store-preserved : goal.loop-store-preserved
loop-store-preserved g c =
    WritesEach-more (λ store. SendsValue (store_value store)) _ _ _ _ _ _ (search rules) (search rules)
    c.loop-store.invariant c.in_ok-send_store.ensures

pub returns : goal.returns
returns g c =
    let written = g.S.Serializer.written in
    let same : c.unwrap-pending.result.now ≡ pending_at c.args.machine.now c.args.core = search rules in
    on_ok_weaker c.end_seq.result
    (λ ended. subst (λ (stores : Pending). SendsValue (stores_value stores) (written c.args.out.now)
    (written c.end_seq.new.self)) same
    (sent_list store_value c.unwrap-pending.result.now _ _
    (WritesSeq-ends (λ store. SendsValue (store_value store)) _ _ _ _ _ _ _ _ refl (search rules) (search rules)
    c.in_ok-begin_seq.ensures c.loop-store.invariant ended)))
    c.end_seq.ensures
