use Rattle.tm_hunt.specs.Delays.{AreTold}
use Rattle.tm_hunt.proofs.delays.Course.tell_all.Given as goal

abbrev pub invariant-loop-stored : goal.invariant-loop-stored
invariant-loop-stored l = AreTold l.self.trial l.self.picks.now l.found.items
