use Rattle.tm_hunt.specs.Cycle.{IsMachineOf}
use Rattle.tm_hunt.specs.Delays.{AreTold}
use Rattle.tm_hunt.proofs.delays.find_on.Given as goal

abbrev pub invariant-cores : goal.invariant-cores
invariant-cores l = record {
  machine : IsMachineOf l.trial l.machine;
  found : AreTold l.trial l.picks l.found.items;
}
