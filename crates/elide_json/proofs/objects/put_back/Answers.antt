use Rattle.std.proofs.Common.{◌≡◌, ◌≤◌, ◌∙◌, ℕ, List, ap, codes, drop, length, subst, sym}
use Rattle.std.specs.Option.{option_copied}
use Rattle.std.proofs.lemmas.Result.{on_ok_weaker}
use Rattle.elide_object.specs.Object.{object_text}
use Rattle.text_out.proofs.Writing.{wrote_then}
use Rattle.text_out.specs.Writing.{Wrote}
use Rattle.serde_json.specs.Data.{Members, member, object}
use Rattle.elide_json.proofs.RunTexts.{some_text}
use Rattle.elide_json.proofs.Same.{shown_same}
use Rattle.elide_json.specs.Memory.{AreRowsOf}
use Rattle.elide_json.specs.Objects.{run_members, running_value, status_member}
use Rattle.elide_json.proofs.objects.put_back.Goals as goal

pub put_others-requires : goal.put_others-requires
put_others-requires g c =
    let text = c.as_bytes.ensures.value ∙ c.in_ok-line.ensures.text in
    subst (λ (l : List ℕ). 1 ≤ length l) (sym text) (some_text _)

pub returns-clause-wrote : goal.returns-clause-wrote
returns-clause-wrote g c =
    let device = g.O.Out.device in
    let machine = c.args.subject.machine.now in
    let parts = c.args.subject.parts.now in
    let texts = c.args.subject.texts.now in
    let rows = c.in_ok-rows.rows in
    let are : AreRowsOf machine.memory parts texts rows =
    subst (λ (memory : List ℕ). AreRowsOf memory parts texts rows) c.view.ensures c.in_ok-rows.ensures.rows in
    let same = shown_same c.shown_of-shown.result machine parts texts rows c.shown_of-shown.ensures.machine
    c.shown_of-shown.ensures.dumps c.shown_of-shown.ensures.shows are in
    let others = run_members machine parts texts (option_copied c.args.running) c.args.status in
    let line : c.as_bytes.result.now ≡ object_text (object others) =
    c.as_bytes.ensures.value ∙ c.in_ok-line.ensures.text
    ∙ ap (λ (members : Members). object_text (object members))
    (same (member (codes "running") (running_value (option_copied c.args.running)) (status_member c.args.status))) in
    on_ok_weaker c.put_others.result
    (λ h. wrote_then
    (subst (λ (l : List ℕ). Wrote (device c.args.out.now) (device c.put.new.out) l) c.closing.ensures
    c.in_ok-put.ensures.wrote)
    (subst (λ (l : List ℕ). Wrote (device c.put.new.out) (device c.put_others.new.out) (drop 1 l)) line h))
    c.put_others.ensures.wrote
