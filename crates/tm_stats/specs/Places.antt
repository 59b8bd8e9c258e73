-- The counts of one place, and what a step makes of them.
use Rattle.std.specs.Prelude.{ℕ, ◌+◌, ◌^◌, ◌<◌, unwrap_or, nat_eq}
use Rattle.std.specs.HashMap.{HashMap, get}
use Rattle.tm_model.specs.declared.outcome.Outcome.{Outcome}
use Rattle.tm_model.specs.declared.outcome.Outcome.TheVariants.{Begun, Committed, Aborted, AbortedBy}
use Rattle.tm_stats.specs.declared.place_counts.PlaceCounts.{PlaceCounts}

-- what none came to
abbrev pub zero_counts : PlaceCounts
zero_counts = record { begun = 0; committed = 0; aborted = 0; lost = 0 }

-- the counts of a place, zeros where it has no row
abbrev pub counts_at : {S : Type 0} → HashMap ℕ PlaceCounts S → ℕ → PlaceCounts
counts_at places place = unwrap_or (get nat_eq places place) zero_counts

-- after a step of a transaction that took so many steps before
abbrev pub after_step : Outcome → ℕ → PlaceCounts → PlaceCounts
after_step Begun before counts = record counts { begun = counts.begun + 1 }
after_step Committed before counts = record counts { committed = counts.committed + 1 }
after_step (Aborted status) before counts =
    record counts { aborted = counts.aborted + 1; lost = counts.lost + (before + 1) }
after_step (AbortedBy interference status) before counts =
    record counts { aborted = counts.aborted + 1; lost = counts.lost + (before + 1) }
after_step outcome before counts = counts

-- the counts after it are below 2^64
pub record Fits (counts : PlaceCounts) (before : ℕ) : Type 0 where
  pub begun : counts.begun + 1 < 2 ^ 64
  pub committed : counts.committed + 1 < 2 ^ 64
  pub aborted : counts.aborted + 1 < 2 ^ 64
  pub lost : counts.lost + (before + 1) < 2 ^ 64
