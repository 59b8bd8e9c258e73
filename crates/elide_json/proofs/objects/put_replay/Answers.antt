use Rattle.std.proofs.Common.{◌≡◌, ◌∙◌, ℕ, List, ap, codes, subst}
use Rattle.std.proofs.lemmas.Result.{on_ok_weaker}
use Rattle.elide_object.specs.Object.{object_text}
use Rattle.text_out.specs.Writing.{Wrote}
use Rattle.serde_json.specs.Data.{Members, boolean, member}
use Rattle.elide_json.proofs.Same.{shown_same}
use Rattle.elide_json.specs.Memory.{AreRowsOf}
use Rattle.elide_json.specs.Objects.{replay_value, status_member}
use Rattle.elide_json.specs.Outcomes.{command_value}
use Rattle.elide_json.proofs.objects.put_replay.Goals as goal

pub returns-clause-wrote : goal.returns-clause-wrote
returns-clause-wrote g c =
    let device = g.O.Out.device in
    let machine = c.args.subject.machine.now in
    let parts = c.args.subject.parts.now in
    let texts = c.args.subject.texts.now in
    let rows = c.in_ok-rows.rows in
    let are : AreRowsOf machine.memory parts texts rows =
    subst (λ (memory : List ℕ). AreRowsOf memory parts texts rows) c.view.ensures c.in_ok-rows.ensures.rows in
    let same = shown_same c.shown_of-shown.result machine parts texts rows c.shown_of-shown.ensures.machine
    c.shown_of-shown.ensures.dumps c.shown_of-shown.ensures.shows are in
    let text : c.as_bytes.result.now ≡ object_text (replay_value machine parts texts c.args.agrees c.args.status) =
    c.as_bytes.ensures.value ∙ c.in_ok-line.ensures.text
    ∙ ap (λ (members : Members). object_text (command_value (codes "replay") members))
    (same (member (codes "agree") (boolean c.args.agrees) (status_member c.args.status))) in
    on_ok_weaker c.put.result
    (λ h. subst (λ (l : List ℕ). Wrote (device c.args.out.now) (device c.put.new.out) l) text h) c.put.ensures.wrote
