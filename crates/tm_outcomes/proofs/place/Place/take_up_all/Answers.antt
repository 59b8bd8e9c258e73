use Rattle.std.proofs.Common.{◌++◌, List, take, sym, ap, ◌∙◌, subst, append_assoc}
use Rattle.std.proofs.lemmas.List.{append-nil, take_all, take_more}
use Rattle.std.proofs.lemmas.List.Elements.{All-get_or}
use Rattle.tm_model.specs.declared.outcome.Pick.{Pick}
use Rattle.tm_outcomes.specs.Nodes.{IsPickOf}
use Rattle.tm_outcomes.specs.Places.{IsAhead}
use Rattle.tm_outcomes.proofs.place.Place.take_up_all.Goals as goal

pub loop-pick-init : goal.loop-pick-init
loop-pick-init c = record {
  ahead = λ schedule is. subst (λ (s : List Pick). IsAhead c.args.trial.now c.args.self.now c.args.ahead s)
      (sym (append-nil schedule)) is;
  core = c.requires.core;
  place = c.requires.place;
}

pub take_up-ahead-requires-clause-pick : goal.take_up-ahead-requires-clause-pick
take_up-ahead-requires-clause-pick c =
    (All-get_or (IsPickOf c.args.trial.now) c.args.steps.now c.loop-pick.pick-index _ c.loop-pick-test.true
    c.requires.picks).is_core

pub loop-pick-preserved : goal.loop-pick-preserved
loop-pick-preserved c =
    let steps : List Pick = c.args.steps.now in
    record {
      ahead = λ schedule is.
          subst (λ (s : List Pick). IsAhead c.args.trial.now c.take_up-ahead.new.self c.take_up-ahead.result s)
          (append_assoc schedule (take c.loop-pick.pick-index steps) _
          ∙ ap (λ (s : List Pick). schedule ++ s)
          (sym (take_more steps c.loop-pick.pick-index _ c.loop-pick-test.true)))
          (c.take_up-ahead.ensures.ahead (schedule ++ take c.loop-pick.pick-index steps)
          (c.loop-pick.invariant.ahead schedule is));
      core = λ _. c.take_up-ahead.ensures.core;
      place = c.take_up-ahead.ensures.place;
    }

pub returns-clause-ahead : goal.returns-clause-ahead
returns-clause-ahead c = λ schedule is.
    subst (λ (s : List Pick). IsAhead c.args.trial.now c.loop-pick.self c.loop-pick.ahead (schedule ++ s))
    (take_all c.loop-pick.pick-index c.args.steps.now c.loop-pick-test.false) (c.loop-pick.invariant.ahead schedule is)
