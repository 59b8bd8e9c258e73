-- Lists of steps, as they are kept: of each step its core and its outcome.
use Rattle.std.specs.Prelude.{ℕ, List, map}
use Rattle.ia_word.specs.Bytes.{long_of}
use Rattle.tm_model.specs.declared.outcome.Outcome.{Outcome}
use Rattle.tm_model.specs.declared.outcome.Outcome.TheVariants.{Plain, Loaded, Stopped, Idle, Begun, Inside}
use Rattle.tm_model.specs.declared.outcome.Outcome.TheVariants.{Committed, Aborted, AbortedBy, Drained}
use Rattle.tm_model.specs.declared.outcome.Interference.TheVariants.{Interrupt, Eviction, Snoop}
use Rattle.tm_hist.specs.declared.pair.PackedOutcome.{PackedOutcome}
use Rattle.tm_hist.specs.declared.pair.PackedOutcome.TheVariants as kept
use Rattle.tm_hist.specs.declared.pair.Pair.{Pair}
use Rattle.tm_hist.specs.declared.history.History.{History}
use Rattle.tm_hist.specs.declared.history.Steps.{Steps}
use Rattle.tm_hist.specs.declared.history.Steps.TheVariants.{Given, Made}

-- the status of an abort is kept in its four bytes
abbrev pub outcome_of : PackedOutcome → Outcome
outcome_of kept.Plain = Plain
outcome_of kept.Loaded = Loaded
outcome_of (kept.Stopped why) = Stopped why
outcome_of kept.Idle = Idle
outcome_of kept.Begun = Begun
outcome_of kept.Inside = Inside
outcome_of kept.Committed = Committed
outcome_of (kept.Aborted status) = Aborted (long_of status)
outcome_of (kept.Interrupted status) = AbortedBy Interrupt (long_of status)
outcome_of (kept.Evicted status) = AbortedBy Eviction (long_of status)
outcome_of (kept.Snooped status) = AbortedBy Snoop (long_of status)
outcome_of kept.Drained = Drained

abbrev pub pair_of : Pair → ℕ × Outcome
pair_of p = (p.core, outcome_of p.outcome)

abbrev pub pairs_in : Steps → List (ℕ × Outcome)
pairs_in (Given pairs) = pairs.now
pairs_in (Made pairs) = map pair_of pairs.now

-- the steps of a history, in order
abbrev pub pairs_of : History → List (ℕ × Outcome)
pairs_of h = pairs_in h.steps
