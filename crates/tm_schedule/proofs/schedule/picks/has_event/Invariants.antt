use Rattle.std.proofs.Common.{◌≡◌, ◌||◌, length}
use Rattle.tm_schedule.specs.Picks.{AreBytes, has_event}
use Rattle.tm_schedule.proofs.schedule.picks.has_event.Given as goal

-- one comes under an event where one did so far, or one that is left does; those so far are numbers below 256
abbrev pub invariant-picks : goal.invariant-picks
invariant-picks l =
    (has_event l.initial.left ≡ (l.found || has_event l.left)) × (AreBytes l.left → AreBytes l.initial.left)

abbrev pub decreases-picks : goal.decreases-picks
decreases-picks l = length l.left
