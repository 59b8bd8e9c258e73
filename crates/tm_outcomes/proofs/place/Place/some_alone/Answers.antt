use Rattle.std.proofs.Common.{arith}
use Rattle.tm_outcomes.proofs.Alone.{at_alone, place_alone}
use Rattle.tm_outcomes.proofs.place.Place.some_alone.Goals as goal

pub returns-clause-at : goal.returns-clause-at
returns-clause-at c = λ schedule at.
    at_alone c.args.trial.now c.args.self.now (record { machine = c.steps_alone.new.self }) c.args.core c.in-Ok.made
    c.in-Ok.ensures.steps (let none = c.if-trial-gt0.false in omega arith) schedule at

pub returns-clause-place : goal.returns-clause-place
returns-clause-place c =
    place_alone c.args.trial.now c.args.self.now (record { machine = c.steps_alone.new.self }) c.args.core c.in-Ok.made
    c.in-Ok.ensures.steps c.requires.place
