use Rattle.std.proofs.Common.{◌≡◌, ◌++◌, ◌<◌, ℕ, List, length}
use Rattle.tm_outcomes.specs.Nodes.{steps_along}
use Rattle.tm_outcomes.specs.Places.{IsAhead, IsPlaceOf}
use Rattle.tm_outcomes.proofs.place.Place.replay.Given as goal

-- the steps of those nodes on the way are taken up that are not left
abbrev pub invariant-nodes : goal.invariant-nodes
invariant-nodes l = record {
  taken : (rest : List ℕ) × ((l.way ≡ l.left ++ rest) × IsAhead l.trial l.self l.ahead (steps_along l.nodes rest));
  core : 0 < l.ahead.count → l.ahead.core < length l.trial.program.now.entries;
  place : IsPlaceOf l.trial l.self;
}

abbrev pub decreases-nodes : goal.decreases-nodes
decreases-nodes l = length l.left
