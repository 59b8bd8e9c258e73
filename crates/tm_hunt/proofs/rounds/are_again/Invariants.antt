use Rattle.std.proofs.Common.{◌≡◌, ℕ, ◌++◌, length}
use Rattle.tm_hunt.specs.Cycle.{again}
use Rattle.tm_hunt.proofs.rounds.are_again.Given as goal

-- the rounds so far
abbrev pub invariant-rounds : goal.invariant-rounds
invariant-rounds l = (times : ℕ) × (l.picks ≡ again times l.round ++ l.left)

abbrev pub decreases-rounds : goal.decreases-rounds
decreases-rounds l = length l.left
