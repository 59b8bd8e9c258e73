use Rattle.std.proofs.Common.{◌≢◌, ℕ, ◌<◌, get_or}
use Rattle.tm_outcomes.specs.declared.stops.ReachedStop.{ReachedStop}
use Rattle.tm_outcomes.proofs.stops.is_told.Given as goal

-- none so far has this reason
abbrev pub invariant-loop-told : goal.invariant-loop-told
invariant-loop-told l =
    (index : ℕ) (other : ReachedStop) → index < l.told-index → (get_or l.stops index other).why ≢ l.why
