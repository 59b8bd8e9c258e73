use Rattle.std.proofs.Common.{codes}
use Rattle.std.proofs.lemmas.Result.{on_ok_weaker}
use Rattle.elide_object.specs.Object.{number_value}
use Rattle.elide_object.proofs.Sending.{sent_equal}
use Rattle.serde_json.specs.Data.{string}
use Rattle.tm_hist.specs.Lines.{status_of}
use Rattle.elide_json.specs.Outcomes.{outcome_value}
use Rattle.elide_json.specs.Words.{number_or_null, outcome_event, outcome_name, outcome_stop}
use Rattle.elide_object.specs.Object.{text_or_null}
use Rattle.elide_json.proofs.outcomes.OutcomeRowSerialize.serialize.Goals as goal

pub returns : goal.returns
unfolding outcome_value
returns g c =
    let written = g.S.Serializer.written in
    let outcome = c.args.self.now.outcome in
    let step = c.in_ok-send_number.ensures in
    let core =
    sent_equal (codes "core") number_value _ c.args.self.now.core _ _ c.from.ensures c.in_ok-send_number-2.ensures in
    let name = sent_equal (codes "outcome") string _ (outcome_name outcome) _ _ c.name_of_outcome.ensures
    c.in_ok-send_text.ensures in
    let stop = sent_equal (codes "stop") text_or_null _ (outcome_stop outcome) _ _ c.stop_of_outcome.ensures
    c.in_ok-send_text_or_null.ensures in
    let status = sent_equal (codes "status") number_or_null _ (status_of outcome) _ _ c.status_of.ensures
    c.in_ok-send_optional.ensures in
    let event = sent_equal (codes "event") text_or_null _ (outcome_event outcome) _ _ c.event_of.ensures
    c.in_ok-send_text_or_null-2.ensures in
    on_ok_weaker c.end_map.result (λ ended. (
      written c.begin_map.new.self,
      c.in_ok-begin_map.ensures,
      (
        step.0,
        written c.send_number.new.out,
        step.1,
        step.2,
        (
          core.0,
          written c.send_number-2.new.out,
          core.1,
          core.2,
          (
            name.0,
            written c.send_text.new.out,
            name.1,
            name.2,
            (
              stop.0,
              written c.send_text_or_null.new.out,
              stop.1,
              stop.2,
              (
                status.0,
                written c.send_optional.new.out,
                status.1,
                status.2,
                (
                  event.0,
                  written c.send_text_or_null-2.new.out,
                  event.1,
                  event.2,
                  ended,
                ),
              ),
            ),
          ),
        ),
      ),
    )) c.end_map.ensures
