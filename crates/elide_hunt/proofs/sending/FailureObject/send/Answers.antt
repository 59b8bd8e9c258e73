use Rattle.std.proofs.Common.{◌≡◌, ℕ, suc, Bool, true, false, codes, List, Some, ap, ◌∙◌, refl, subst}
use Rattle.std.specs.Prelude.{if◌then◌else◌}
use Rattle.std.proofs.lemmas.Result.{on_ok_weaker}
use Rattle.elide_object.specs.Object.{number_value, schedule_value}
use Rattle.elide_object.proofs.Sending.{sent_equal}
use Rattle.elide_program.specs.Settings.{has_store_buffer}
use Rattle.serde.specs.Event.{Logs, map_begins}
use Rattle.serde_json.specs.Data.{member, no_members, string}
use Rattle.serde_json.specs.Events.{members_len}
use Rattle.tm_model.specs.declared.outcome.Pick.{Pick}
use Rattle.tm_hunt.specs.Deciding.{deciding}
use Rattle.elide_hunt.specs.Lines.{counts_of}
use Rattle.elide_hunt.specs.Object.{counts_value, cycle_value, lates_then}
use Rattle.elide_hunt.specs.declared.late.Late.{Late}
use Rattle.elide_hunt.proofs.sending.FailureObject.send.Goals as goal

-- how many members there are
count : (may_pend : Bool) (lates : List Late) (replay : List ℕ) → (if may_pend then 9 else 8)
    ≡ suc (suc (suc (suc (suc (suc (suc (members_len (lates_then may_pend lates
    (member (codes "replay") (string replay) no_members)))))))))
count true lates replay = refl
count false lates replay = refl

pub returns : goal.returns
returns g c =
    let written = g.S.Serializer.written in
    let found = c.args.self.now.found.now in
    let picks = found.failure.picks.items in
    let same = c.as_slice.ensures.value in
    let run = sent_equal (codes "run") number_value _ found.run _ _ c.from.ensures c.in_ok-send_number.ensures in
    let check = c.in_ok-send_check.ensures in
    let before = c.in_ok-send_counts.ensures in
    let after =
    sent_equal (codes "after") counts_value _ (counts_of picks) _ _ (c.counts_of.ensures ∙ ap counts_of same)
    c.in_ok-send_counts-2.ensures in
    let front = c.in_ok-send_number-2.ensures in
    let steps = sent_equal (codes "schedule") schedule_value _ (deciding found.failure) _ _ c.deciding.ensures
    c.in_ok-send_schedule.ensures in
    let cycle = c.args.self.now.beside.now.cycle in
    let round = sent_equal (codes "cycle") (λ (l : List Pick). cycle_value l cycle) _ picks _ _
    c.as_slice-2.ensures.value c.in_ok-send_cycle.ensures in
    let o = c.args.self.now in
    on_ok_weaker c.send_rest.result (λ ended. (
      written c.begin_map.new.self,
      subst (λ (n : ℕ). Logs (written c.args.out.now) (written c.begin_map.new.self) (map_begins (Some n)))
          (c.members.ensures ∙ count (has_store_buffer o.options.now.machine) o.beside.now.lates.items o.replay.now)
          c.in_ok-begin_map.ensures,
      (
        run.0,
        written c.send_number.new.out,
        run.1,
        run.2,
        (
          check.0,
          written c.send_check.new.out,
          check.1,
          check.2,
          (
            before.0,
            written c.send_counts.new.out,
            before.1,
            before.2,
            (
              after.0,
              written c.send_counts-2.new.out,
              after.1,
              after.2,
              (
                front.0,
                written c.send_number-2.new.out,
                front.1,
                front.2,
                (
                  steps.0,
                  written c.send_schedule.new.out,
                  steps.1,
                  steps.2,
                  (round.0, written c.send_cycle.new.out, round.1, round.2, ended),
                ),
              ),
            ),
          ),
        ),
      ),
    )) c.send_rest.ensures
