use Rattle.tm_outcomes.proofs.Seeing.{violates_at, violates_of}
use Rattle.tm_outcomes.proofs.place.Place.violates.Goals as goal

pub returns : goal.returns
returns c = λ now stands. (
  λ is. violates_at c.args.self.now.machine now stands c.args.check.now (c.is_violated.ensures.0 is),
  λ violates. c.is_violated.ensures.1 (violates_of c.args.self.now.machine now stands c.args.check.now violates),
)
