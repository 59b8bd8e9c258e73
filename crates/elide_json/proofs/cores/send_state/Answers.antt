use Rattle.std.proofs.Common.{codes, ◌∙◌}
use Rattle.std.proofs.lemmas.Result.{on_ok_weaker}
use Rattle.elide_object.specs.Object.{number_value}
use Rattle.elide_object.proofs.Sending.{sent_equal}
use Rattle.serde_json.specs.Data.{string}
use Rattle.tm_hist.specs.Machine.{depth_of}
use Rattle.elide_json.specs.Words.{state_name, state_stop}
use Rattle.elide_object.specs.Object.{text_or_null}
use Rattle.elide_json.proofs.cores.send_state.Goals as goal

pub returns : goal.returns
returns g c =
    let written = g.S.Serializer.written in
    let state = c.args.state in
    let name =
    sent_equal (codes "state") string _ (state_name state) _ _ c.name_of_state.ensures c.in_ok-send_text.ensures in
    let depth = sent_equal (codes "depth") number_value _ (depth_of state) _ _ (c.from.ensures ∙ c.depth_of.ensures)
    c.in_ok-send_number.ensures in
    on_ok_weaker c.send_text_or_null.result (λ sent others end rest.
    let stop = sent_equal (codes "stop") text_or_null _ (state_stop state) _ _ c.stop_of_state.ensures sent in (
      name.0,
      written c.send_text.new.out,
      name.1,
      name.2,
      (
        depth.0,
        written c.send_number.new.out,
        depth.1,
        depth.2,
        (
          stop.0,
          written c.send_text_or_null.new.out,
          stop.1,
          stop.2,
          rest,
        ),
      ),
    ))
    c.send_text_or_null.ensures
