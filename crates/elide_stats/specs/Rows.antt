-- The rows of a report are those of the counts (docs/FORMATS.md, "Statistics").
use Rattle.std.specs.Prelude.{◌≡◌, ℕ, ◌*◌, ◌^◌, ◌<◌, Bool, List, codes, if◌then◌else◌, sum, sum_by}
use Rattle.std.specs.List.{AllZip}
use Rattle.tm_stats.specs.declared.conflicts.Conflict.{Conflict}
use Rattle.tm_stats.specs.declared.conflicts.Conflicts.{Conflicts}
use Rattle.tm_stats.specs.declared.counts.RunCounts.{RunCounts}
use Rattle.tm_stats.specs.declared.place_counts.PlaceCounts.{PlaceCounts}
use Rattle.tm_stats.specs.declared.step.PlaceCause.{PlaceCause}
use Rattle.tm_stats.specs.declared.step.PlaceSize.{PlaceSize}
use Rattle.elide_stats.specs.declared.report.AbortRow.{AbortRow}
use Rattle.elide_stats.specs.declared.report.HitRow.{HitRow}
use Rattle.elide_stats.specs.declared.report.LineRow.{LineRow}
use Rattle.elide_stats.specs.declared.report.PlaceRow.{PlaceRow}
use Rattle.elide_stats.specs.declared.report.Report.{Report}
use Rattle.elide_stats.specs.declared.report.StepsRow.{StepsRow}

-- the steps of transactions that committed, of those that aborted, and of those that are open
abbrev pub steps_of_size : PlaceSize × ℕ → ℕ
steps_of_size entry = entry.0.size * entry.1

abbrev pub lost_of_place : ℕ × PlaceCounts → ℕ
lost_of_place entry = entry.1.lost

-- a sum, where it fits
abbrev pub IsSum : ℕ → ℕ → Type 0
IsSum sum told = sum < 2 ^ 64 → told ≡ sum

-- how the steps divide
pub record AreStepsOf (counts : RunCounts) (row : StepsRow) : Type 0 where
  pub all : row.all ≡ counts.steps
  pub outside : row.outside ≡ counts.outside
  pub committed : IsSum (sum_by steps_of_size counts.lengths.entries) row.committed
  pub aborted : IsSum (sum_by lost_of_place counts.places.entries) row.aborted
  pub under_way : IsSum (sum counts.under_way) row.open
  pub idle : row.idle ≡ counts.idle
  pub drained : row.drained ≡ counts.drained

-- the row of a place's counts
pub record IsPlaceRow (entry : ℕ × PlaceCounts) (row : PlaceRow) : Type 0 where
  pub begun : row.begun ≡ entry.1.begun
  pub committed : row.committed ≡ entry.1.committed
  pub aborted : row.aborted ≡ entry.1.aborted
  pub lost : row.lost ≡ entry.1.lost

-- that of how many aborts a place has for a cause
pub record IsAbortRow (entry : PlaceCause × ℕ) (row : AbortRow) : Type 0 where
  pub count : row.count ≡ entry.1

-- that of how many transactions were doomed on a line
pub record IsLineRow (entry : ℕ × ℕ) (row : LineRow) : Type 0 where
  pub count : row.count ≡ entry.1

-- how steps used a line
abbrev pub use_text : Bool → List ℕ
use_text stores = if stores then codes "write" else codes "read"

-- that of how many transactions were hit alike
pub record IsHitRow (entry : Conflict × ℕ) (row : HitRow) : Type 0 where
  pub by : row.by.now ≡ use_text entry.0.stores
  pub count : row.count ≡ entry.1
  pub apart : row.false_sharing ≡ entry.0.is_apart

-- a report has a row for each count, in their order
pub record IsReportOf (counts : RunCounts) (conflicts : Conflicts) (report : Report) : Type 0 where
  pub steps : AreStepsOf counts report.steps
  pub transactions : AllZip IsPlaceRow counts.places.entries report.transactions.items
  pub aborts : AllZip IsAbortRow counts.causes.entries report.aborts.items
  pub lines : AllZip IsLineRow conflicts.lines.entries report.lines.items
  pub hits : AllZip IsHitRow conflicts.pairs.entries report.hits.items
