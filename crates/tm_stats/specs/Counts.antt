-- The counts of a run, as functions of the list of its steps, the newest first (docs/FORMATS.md, "Statistics"). The
-- place of a transaction is the EIP of its outermost XBEGIN (SDM volume 1, 16.3.1).
use Rattle.std.specs.Prelude.{◌≡◌, ℕ, ◌+◌, ◌<◌, Bool, true, false, ◌&&◌, if◌then◌else◌, List, [], ◌∷◌, length}
use Rattle.std.specs.HashMap.{spare}
use Rattle.std.specs.Prelude.{nat_eq, slice_index}
use Rattle.tm_model.specs.declared.outcome.Outcome.{Outcome}
use Rattle.tm_model.specs.declared.outcome.Outcome.TheVariants.{Plain, Loaded, Stopped, Idle, Begun, Inside}
use Rattle.tm_model.specs.declared.outcome.Outcome.TheVariants.{Committed, Aborted, AbortedBy, Drained}
use Rattle.tm_stats.specs.Causes.{cause_counted}
use Rattle.tm_stats.specs.Places.{counts_at}
use Rattle.tm_stats.specs.Tally.{counted, total_of}
use Rattle.tm_stats.specs.declared.cause.AbortCause.{AbortCause}
use Rattle.tm_stats.specs.declared.counts.RunCounts.{RunCounts}
use Rattle.tm_stats.specs.declared.place_counts.PlaceCounts.{PlaceCounts}
use Rattle.tm_stats.specs.declared.step.PlaceCause.{PlaceCause}
use Rattle.tm_stats.specs.declared.step.PlaceSize.{PlaceSize}
use Rattle.tm_stats.specs.declared.step.Step.{Step}

-- ---- kinds of steps

abbrev pub is_begun : Outcome → Bool
is_begun Begun = true
is_begun outcome = false

abbrev pub is_committed : Outcome → Bool
is_committed Committed = true
is_committed outcome = false

abbrev pub is_aborted : Outcome → Bool
is_aborted (Aborted status) = true
is_aborted (AbortedBy interference status) = true
is_aborted outcome = false

-- outside of transactions
abbrev pub is_outside : Outcome → Bool
is_outside Plain = true
is_outside Loaded = true
is_outside (Stopped stop) = true
is_outside outcome = false

abbrev pub is_idle : Outcome → Bool
is_idle Idle = true
is_idle outcome = false

-- the drain of a store that was pending
abbrev pub is_drained : Outcome → Bool
is_drained Drained = true
is_drained outcome = false

-- ---- counts

abbrev pub how_many : (Step → Bool) → List Step → ℕ
how_many test [] = 0
how_many test (step ∷ earlier) = counted (test step) (how_many test earlier)

-- how many transactions of a place began, committed and aborted
abbrev pub begun_at : ℕ → List Step → ℕ
begun_at place = how_many (λ step. is_begun step.outcome && nat_eq step.place place)

abbrev pub committed_at : ℕ → List Step → ℕ
committed_at place = how_many (λ step. is_committed step.outcome && nat_eq step.place place)

abbrev pub aborted_at : ℕ → List Step → ℕ
aborted_at place = how_many (λ step. is_aborted step.outcome && nat_eq step.place place)

-- how many of them aborted for a cause, where `same` compares causes
abbrev pub aborted_for : (AbortCause → AbortCause → Bool) → ℕ → AbortCause → List Step → ℕ
aborted_for same place cause =
    how_many (λ step. is_aborted step.outcome
    && (nat_eq step.place place && same (cause_counted step.outcome step.cause) cause))

-- ---- steps of transactions

-- a drain is no instruction: it is none of the transaction's steps, and leaves it open
abbrev pub open_after : Outcome → ℕ → ℕ
open_after Begun before = 1
open_after Inside before = before + 1
open_after Drained before = before
open_after outcome before = 0

-- how many steps a core has made in its open transaction, the first of them XBEGIN; 0 where it has none
abbrev pub open_steps : ℕ → List Step → ℕ
open_steps core [] = 0
open_steps core (step ∷ earlier) =
    if nat_eq step.core core then open_after step.outcome (open_steps core earlier) else open_steps core earlier

-- how many steps the transactions of a place took that aborted, with the aborts
abbrev pub lost_at : ℕ → List Step → ℕ
lost_at place [] = 0
lost_at place (step ∷ earlier) =
    if is_aborted step.outcome && nat_eq step.place place
    then lost_at place earlier + (open_steps step.core earlier + 1)
    else lost_at place earlier

-- ---- sizes of transactions that committed

-- how many transactions of a place committed with this size
abbrev pub commits_of : (Step → List Step → ℕ) → ℕ → ℕ → List Step → ℕ
commits_of size_of place size [] = 0
commits_of size_of place size (step ∷ earlier) =
    counted (is_committed step.outcome && (nat_eq step.place place && nat_eq (size_of step earlier) size))
    (commits_of size_of place size earlier)

-- the steps that a commit ends, with the XEND
abbrev pub steps_taken : Step → List Step → ℕ
steps_taken step earlier = open_steps step.core earlier + 1

abbrev pub lines_read : Step → List Step → ℕ
lines_read step earlier = step.reads

abbrev pub lines_written : Step → List Step → ℕ
lines_written step earlier = step.writes

-- ---- all of them

abbrev pub counts_of : ℕ → List Step → PlaceCounts
counts_of place steps = record {
  begun = begun_at place steps;
  committed = committed_at place steps;
  aborted = aborted_at place steps;
  lost = lost_at place steps;
}

abbrev pub same_size : PlaceSize → PlaceSize → Bool
same_size left right = nat_eq left.place right.place && nat_eq left.size right.size

abbrev pub same_cause : (AbortCause → AbortCause → Bool) → PlaceCause → PlaceCause → Bool
same_cause same left right = nat_eq left.place right.place && same left.cause right.cause

-- the counts of these steps
pub record AreCounts (same : AbortCause → AbortCause → Bool) (counts : RunCounts) (steps : List Step)
    : Type 0 where
  pub steps_told : counts.steps ≡ length steps
  pub outside : counts.outside ≡ how_many (λ step. is_outside step.outcome) steps
  pub idle : counts.idle ≡ how_many (λ step. is_idle step.outcome) steps
  pub drained : counts.drained ≡ how_many (λ step. is_drained step.outcome) steps
  pub under_way : (core : ℕ) → core < 256 → slice_index counts.under_way core ≡ open_steps core steps
  pub places : (place : ℕ) → counts_at counts.places place ≡ counts_of place steps
  pub causes : (key : PlaceCause) →
      total_of (same_cause same) counts.causes key ≡ aborted_for same key.place key.cause steps
  pub lengths : (key : PlaceSize) →
      total_of same_size counts.lengths key ≡ commits_of steps_taken key.place key.size steps
  pub reads : (key : PlaceSize) →
      total_of same_size counts.reads key ≡ commits_of lines_read key.place key.size steps
  pub writes : (key : PlaceSize) →
      total_of same_size counts.writes key ≡ commits_of lines_written key.place key.size steps

-- what making room leaves as it was
pub record SameCounts (old new : RunCounts) : Type 0 where
  pub steps_told : new.steps ≡ old.steps
  pub outside : new.outside ≡ old.outside
  pub idle : new.idle ≡ old.idle
  pub drained : new.drained ≡ old.drained
  pub under_way : new.under_way ≡ old.under_way
  pub places : new.places.entries ≡ old.places.entries
  pub causes : new.causes.entries ≡ old.causes.entries
  pub lengths : new.lengths.entries ≡ old.lengths.entries
  pub reads : new.reads.entries ≡ old.reads.entries
  pub writes : new.writes.entries ≡ old.writes.entries

-- room for a row more of each kind
pub record HasRoom (counts : RunCounts) : Type 0 where
  pub places : 0 < spare counts.places
  pub causes : 0 < spare counts.causes
  pub lengths : 0 < spare counts.lengths
  pub reads : 0 < spare counts.reads
  pub writes : 0 < spare counts.writes
