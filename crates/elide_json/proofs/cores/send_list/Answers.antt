use Rattle.std.proofs.Common.{◌≡◌, ◌∙◌, ℕ, rules, length, sym, subst}
use Rattle.std.proofs.lemmas.List.FromFn.{length-range_with_len}
use Rattle.std.proofs.lemmas.Result.{on_ok_weaker}
use Rattle.std.specs.List.{range_with_len}
use Rattle.serde.specs.Event.{WritesEach}
use Rattle.serde_json.specs.Events.{SendsValue}
use Rattle.elide_object.proofs.Sending.{sent_list}
use Rattle.elide_json.specs.Cores.{core_value}
use Rattle.elide_json.proofs.Lists.{each_more, seq_of}
use Rattle.elide_json.proofs.cores.send_list.Goals as goal

pub loop-core-preserved : goal.loop-core-preserved
loop-core-preserved g c =
    each_more (core_value c.args.machine.now) c.loop-core.core _ _ _ c.loop-core.invariant c.in_ok-send_core.ensures

pub returns : goal.returns
returns g c =
    let written = g.S.Serializer.written in
    let machine = c.args.machine.now in
    let count = length machine.views in
    let all : c.loop-core.core ≡ count = search rules in
    let long : c.from.result ≡ length (range_with_len 0 count) =
    c.from.ensures ∙ c.cores.ensures.count ∙ sym (length-range_with_len 0 count) in
    let each = subst (λ (n : ℕ). WritesEach (λ core. SendsValue (core_value machine core)) (range_with_len 0 n)
    (written c.begin_seq.new.self) (written c.loop-core.out)) all c.loop-core.invariant in
    on_ok_weaker c.end_seq.result
    (λ ended. sent_list (core_value machine) (range_with_len 0 count) _ _
    (seq_of (core_value machine) (range_with_len 0 count) _ _ _ _ _ long c.in_ok-begin_seq.ensures each ended))
    c.end_seq.ensures
