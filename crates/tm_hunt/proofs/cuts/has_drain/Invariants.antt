use Rattle.std.proofs.Common.{◌≢◌, ◌<◌, ℕ, get_or, Some}
use Rattle.tm_model.specs.declared.outcome.Event.TheVariants.{Drain}
use Rattle.tm_model.specs.declared.outcome.Pick.{Pick}
use Rattle.tm_hunt.proofs.cuts.has_drain.Given as goal

-- none so far is one
abbrev pub invariant-loop-pick : goal.invariant-loop-pick
invariant-loop-pick l = (k : ℕ) (other : Pick) → k < l.pick-index → (get_or l.steps k other).event ≢ Some Drain
