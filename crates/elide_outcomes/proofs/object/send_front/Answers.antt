use Rattle.std.proofs.Common.{codes}
use Rattle.std.proofs.lemmas.Result.{on_ok_weaker}
use Rattle.elide_object.specs.Object.{list_value, number_value}
use Rattle.elide_object.proofs.Sending.{sent_equal}
use Rattle.elide_outcomes.specs.Object.{outcome_value, stop_value, violation_value}
use Rattle.elide_outcomes.proofs.object.send_front.Goals as goal

pub returns : goal.returns
returns g c =
    let written = g.S.Serializer.written in
    let search = c.args.object.now.search.now in
    let format = c.in_ok-send_number.ensures in
    let command = c.in_ok-send_text.ensures in
    let show = c.in_ok-send_texts.ensures in
    let outcomes = sent_equal (codes "outcomes") (list_value outcome_value) _ search.outcomes.items _ _
    c.as_slice.ensures.value c.in_ok-send_outcomes.ensures in
    let violations = sent_equal (codes "violations") (list_value (violation_value c.args.object.now.options.now)) _
    search.violations.items _ _ c.as_slice-2.ensures.value c.in_ok-send_violations.ensures in
    let stops = sent_equal (codes "stops") (list_value stop_value) _ search.stops.items _ _
    c.as_slice-3.ensures.value c.in_ok-send_stops.ensures in
    let stuck = c.in_ok-send_stuck.ensures in
    let cycle = c.in_ok-send_cycle.ensures in
    let states =
    sent_equal (codes "states") number_value _ search.states _ _ c.from.ensures c.in_ok-send_number-2.ensures in
    on_ok_weaker c.send_flag.result (λ whole others end rest. (
      format.0,
      written c.send_number.new.out,
      format.1,
      format.2,
      (
        command.0,
        written c.send_text.new.out,
        command.1,
        command.2,
        (
          show.0,
          written c.send_texts.new.out,
          show.1,
          show.2,
          (
            outcomes.0,
            written c.send_outcomes.new.out,
            outcomes.1,
            outcomes.2,
            (
              violations.0,
              written c.send_violations.new.out,
              violations.1,
              violations.2,
              (
                stops.0,
                written c.send_stops.new.out,
                stops.1,
                stops.2,
                (
                  stuck.0,
                  written c.send_stuck.new.out,
                  stuck.1,
                  stuck.2,
                  (
                    cycle.0,
                    written c.send_cycle.new.out,
                    cycle.1,
                    cycle.2,
                    (
                      states.0,
                      written c.send_number-2.new.out,
                      states.1,
                      states.2,
                      (whole.0, written c.send_flag.new.out, whole.1, whole.2, rest),
                    ),
                  ),
                ),
              ),
            ),
          ),
        ),
      ),
    )) c.send_flag.ensures
