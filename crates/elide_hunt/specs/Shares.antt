-- Runs that are shared out among threads.
use Rattle.std.specs.Prelude.{◌≡◌, ℕ, ◌+◌, ◌-◌, ◌*◌, ◌/◌, ◌<◌, ◌≤◌, nat_lt, if◌then◌else◌, Option, Some, None}
use Rattle.tm_hist.specs.Board.{ShownBoard as Board}
use Rattle.tm_hunt.specs.Attempts.{HavePassed}
use Rattle.tm_hunt.specs.declared.trial.Trial.{Trial}
use Rattle.elide_hunt.specs.declared.block.Share.{Share}

-- where a thread's share begins, of the runs from a first one up to an end; behind that of the last thread they end
unfoldable pub share_start : ℕ → ℕ → ℕ → ℕ → ℕ
share_start first end jobs job = if nat_lt job jobs then first + job * (end - first) / jobs else end

-- the number of the first run that failed, of the runs up to an end; or all passed
abbrev pub IsFirstFailed : ℕ → ℕ → ℕ → Option ℕ → Type 0
IsFirstFailed first end passed None = first ≤ end → first + passed ≡ end
IsFirstFailed first end passed (Some run) = (first + passed ≡ run) × (run < end)

-- what a search over these runs came to, without the schedule of the one that failed
pub record IsShare (trial : Trial) (made : ℕ → Board → Type 0) (first end : ℕ) (share : Share) : Type 0 where
  pub passed : HavePassed trial made first share.ended share.cut
  pub failed : IsFirstFailed first end (share.ended + share.cut) share.failed
