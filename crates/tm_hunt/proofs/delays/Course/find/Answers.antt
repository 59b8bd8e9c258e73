use Rattle.std.proofs.Common.{◌+◌, List, Option, None, [], ◌∷◌, arith, get_or, refl, take}
use Rattle.std.proofs.lemmas.List.{take_more}
use Rattle.std.proofs.lemmas.Option.{slice_get-get_or}
use Rattle.tm_model.specs.declared.outcome.Pick.{Pick}
use Rattle.tm_hunt.proofs.Loads.{came_more, drains_more}
use Rattle.tm_hunt.proofs.delays.Course.find.Goals as goal

-- where there is no step
no_pick : Pick
no_pick = record { core = 0; event = None }

pub look-requires-clause-made : goal.look-requires-clause-made
unfolding no_pick
look-requires-clause-made c =
    let picks : List Pick = c.args.self.picks.now in
    let step = c.steps.step in
    record {
      before = c.steps.machine;
      after = c.make.new.machine;
      is_pick = slice_get-get_or picks step no_pick c.steps-test.true;
      came = c.steps.invariant.came;
      goes = came_more c.args.self.trial c.steps.machine c.make.new.machine (take step picks)
          (get_or picks step no_pick ∷ []) (take (step + 1) picks)
          (take_more picks step no_pick c.steps-test.true) c.steps.invariant.came c.in-Some.ensures.made;
      is_glance = c.in-Some.ensures.seen;
      address = refl;
      drained = c.steps.invariant.drained;
    }

pub steps-preserved : goal.steps-preserved
unfolding no_pick
steps-preserved c =
    let picks : List Pick = c.args.self.picks.now in
    let step = c.steps.step in
    record {
      came = came_more c.args.self.trial c.steps.machine c.make.new.machine (take step picks)
          (get_or picks step no_pick ∷ []) (take (step + 1) picks)
          (take_more picks step no_pick c.steps-test.true) c.steps.invariant.came c.in-Some.ensures.made;
      drained = drains_more c.args.self.core picks step no_pick c.steps.drained c.drains-drained.result
          c.steps-test.true c.steps.invariant.drained c.drains-drained.ensures.drained;
      few = (let few = c.drains-drained.ensures.few in let before = c.steps.invariant.few in omega arith);
      waiting = c.in_ok-look.ensures.waiting;
      found = c.in_ok-look.ensures.found;
    }
