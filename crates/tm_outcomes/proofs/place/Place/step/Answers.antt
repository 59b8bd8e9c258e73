use Rattle.std.proofs.Common.{◌≡◌, Some, ◌∙◌, subst}
use Rattle.tm_core.specs.Theorem.{machine_setting}
use Rattle.tm_model.specs.Setting.{Setting}
use Rattle.tm_outcomes.specs.Outcomes.{trial_opening, trial_setting}
use Rattle.tm_outcomes.specs.Schedules.{after_pick, with_state}
use Rattle.tm_outcomes.proofs.Runs.{one_more, owed_is_next}
use Rattle.tm_outcomes.proofs.place.Place.step.Goals as goal

pub returns-clause-goes : goal.returns-clause-goes
returns-clause-goes c = λ now stands.
    let old = c.args.self.now.machine in
    let pick = c.args.pick in
    let t = c.in-Ok.ensures.ok now.state now.doomed stands in
    let next = with_state (machine_setting old) now pick.core c.in-Ok._outcome t.next in
    record {
      next = next;
      is_next = subst (λ (s : Setting). after_pick s now pick ≡ Some next) c.requires.place.rules
          (owed_is_next (machine_setting old) now pick c.in-Ok._outcome t.next t.is_owed t.is_step);
      stands = t.stands;
    }

pub returns-clause-at : goal.returns-clause-at
returns-clause-at c = λ schedule at.
    let trial = c.args.trial.now in
    let old = c.args.self.now.machine in
    let pick = c.args.pick in
    let t = c.in-Ok.ensures.ok at.now.state at.now.doomed at.stands in
    let next = with_state (machine_setting old) at.now pick.core c.in-Ok._outcome t.next in
    record {
      now = next;
      is_run = one_more (trial_setting trial) (trial_opening trial) schedule at.now next pick at.is_run
          (subst (λ (s : Setting). after_pick s at.now pick ≡ Some next) at.rules
          (owed_is_next (machine_setting old) at.now pick c.in-Ok._outcome t.next t.is_owed t.is_step));
      rules = c.in-Ok.ensures.same.rules ∙ at.rules;
      count = c.in-Ok.ensures.same.cores ∙ at.count;
      stands = t.stands;
    }

pub returns-clause-place : goal.returns-clause-place
returns-clause-place c = record {
  rules = c.in-Ok.ensures.same.rules ∙ c.requires.place.rules;
  count = c.in-Ok.ensures.same.cores ∙ c.requires.place.count;
}
