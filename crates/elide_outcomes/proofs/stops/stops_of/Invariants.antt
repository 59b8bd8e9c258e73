use Rattle.std.proofs.Common.{take}
use Rattle.elide_outcomes.specs.Stops.{AreStops}
use Rattle.elide_outcomes.proofs.stops.stops_of.Given as goal

-- each word so far has its reason
abbrev pub invariant-loop-word : goal.invariant-loop-word
invariant-loop-word l = AreStops (take l.word-index l.words) l.stops.items
