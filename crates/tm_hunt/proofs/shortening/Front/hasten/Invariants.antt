use Rattle.tm_hunt.specs.Cycle.{IsMachineOf}
use Rattle.tm_hunt.specs.Shortening.{CanShorten, Simplifies}
use Rattle.tm_hunt.proofs.shortening.Front.hasten.Given as goal

abbrev pub invariant-tries : goal.invariant-tries
invariant-tries l = record {
  can : CanShorten l.trial l.self l.best;
  machine : IsMachineOf l.trial l.machine;
  simpler : Simplifies l.trial l.fn.best l.best;
}
