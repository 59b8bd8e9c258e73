use Rattle.tm_model.specs.declared.outcome.Pick.{Pick}
use Rattle.tm_outcomes.specs.Nodes.{IsUsualPick}
use Rattle.tm_outcomes.proofs.Resting.{by_none, by_one, rests_once}
use Rattle.tm_outcomes.proofs.Sparing.{is_allowed}
use Rattle.tm_outcomes.proofs.place.Place.rest_core.Goals as goal

pub steps-init : goal.steps-init
steps-init c = record {
  place = c.requires.place;
  rests = by_none c.args.trial.now c.args.self.now c.args.steps.now.items;
}

pub steps-preserved : goal.steps-preserved
steps-preserved c =
    let trial = c.args.trial.now in
    let so_far = c.steps.invariant in
    let pick : Pick = record { core = c.args.core; event = c.usual_event.result } in
    let usual = c.usual_event.ensures in
    let is_pick : IsUsualPick trial pick = record {
      is_pick = record { is_core = c.requires.core; allowed = is_allowed trial.events c.usual_event.result usual };
      usual = usual;
    } in
    let added = c.in_ok-push.ensures.items in
    record {
      place = c.step.ensures.place;
      rests =
          by_one trial c.args.self.now c.steps.self c.step.new.self c.args.steps.now.items c.steps.steps.items _ pick
          so_far.rests added
          (rests_once trial c.steps.self c.step.new.self pick is_pick c.step.ensures.goes c.step.ensures.at
          (c.is_quiet.ensures c.if-not-is_quiet.false));
    }
