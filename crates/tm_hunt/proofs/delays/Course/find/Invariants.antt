use Rattle.std.proofs.Common.{◌≡◌, ◌≤◌, take}
use Rattle.std.specs.Prelude.{All}
use Rattle.tm_hunt.specs.Cycle.{CameBy}
use Rattle.tm_hunt.specs.Delays.{AreTold, IsStored, drains_of}
use Rattle.tm_hunt.proofs.delays.Course.find.Given as goal

-- the steps so far were made
abbrev pub invariant-steps : goal.invariant-steps
invariant-steps l = record {
  came : CameBy l.self.trial l.machine (take l.step l.self.picks.now);
  drained : l.drained ≡ drains_of l.self.core (take l.step l.self.picks.now);
  few : l.drained ≤ l.step;
  waiting : All (IsStored l.self) l.waiting.items;
  found : AreTold l.self.trial l.self.picks.now l.found.items;
}
