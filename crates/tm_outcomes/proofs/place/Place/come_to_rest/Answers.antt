use Rattle.tm_outcomes.proofs.Resting.{by_none, by_then}
use Rattle.tm_outcomes.proofs.place.Place.come_to_rest.Goals as goal

pub loop-core-init : goal.loop-core-init
loop-core-init c = record {
  end = c.cores-core-end.ensures.number;
  place = c.requires.place;
  rests = by_none c.args.trial.now c.args.self.now c.args.steps.now.items;
}

pub loop-core-preserved : goal.loop-core-preserved
loop-core-preserved c =
    let so_far = c.loop-core.invariant in
    let next = c.in_ok-rest_core.ensures in
    record {
      end = so_far.end;
      place = next.place;
      rests = by_then c.args.trial.now c.args.self.now c.loop-core.self c.rest_core.new.self c.args.steps.now.items
          c.loop-core.steps.items c.rest_core.new.steps.items so_far.rests next.rests;
    }
