-- What a run comes to, and a search.
use Rattle.std.specs.Prelude.{◌≡◌, ⊤, ℕ, suc, ◌+◌, ◌<◌, ◌≤◌, true, length, Option, Some, None}
use Rattle.tm_check.specs.Checks.{HasEnded, IsViolatedAt, NoneViolated}
use Rattle.tm_core.specs.Machine.{bad_limits}
use Rattle.tm_hist.specs.Board.{IsFull, ShownBoard as Board, bad_limit}
use Rattle.tm_model.specs.Runs.{picks_of}
use Rattle.tm_hist.specs.declared.board.BoardFault.{BoardFault}
use Rattle.tm_hist.specs.declared.board.BoardFault.TheVariants.{BadLimit, BadLimits, NoMachine, NoMemory as NoHistory}
use Rattle.tm_hunt.specs.Hunt.{Fails, RunsTo}
use Rattle.tm_hunt.specs.declared.attempt.Attempt.{Attempt}
use Rattle.tm_hunt.specs.declared.attempt.Attempt.TheVariants.{Ended, Cut, Failed}
use Rattle.tm_hunt.specs.declared.failure.Failure.{Failure}
use Rattle.tm_hunt.specs.declared.attempt.HuntFault.{HuntFault}
use Rattle.tm_hunt.specs.declared.attempt.HuntFault.TheVariants.{Board as OfBoard, NoMemory}
use Rattle.tm_hunt.specs.declared.searching.Found.{Found}
use Rattle.tm_hunt.specs.declared.searching.Search.{Search}
use Rattle.tm_hunt.specs.declared.trial.Trial.{Trial}

-- a limit is out of range, or memory was refused
abbrev pub IsBoardRefusal : Trial → BoardFault → Type 0
IsBoardRefusal trial BadLimit = bad_limit trial.most ≡ true
IsBoardRefusal trial BadLimits = bad_limits trial.limits ≡ true
IsBoardRefusal trial (NoMachine memory) = ⊤
IsBoardRefusal trial (NoHistory memory) = ⊤

abbrev pub IsRefusal : Trial → HuntFault → Type 0
IsRefusal trial (OfBoard fault) = IsBoardRefusal trial fault
IsRefusal trial NoMemory = ⊤

-- the failure is one, and all of its steps decide where it has not reached the limit
pub record IsFailure (trial : Trial) (failure : Failure) : Type 0 where
  pub fails : Fails trial failure.picks.items failure.check
  pub whole : length failure.picks.items < trial.most → failure.front ≡ length failure.picks.items

-- What a run came to whose board is this one: it violates no check, and each core has stopped, or there are as many
-- steps as there may be; or it violates this check, and all of its steps are the schedule, which decide.
abbrev pub ComesTo : Trial → Board → Attempt → Type 0
ComesTo trial board Ended = HasEnded board × NoneViolated board trial.checks.now
ComesTo trial board Cut = IsFull board × ¬ (HasEnded board) × NoneViolated board trial.checks.now
ComesTo trial board (Failed failure) =
    IsViolatedAt board trial.checks.now failure.check × (failure.picks.items ≡ picks_of board.history)
    × (failure.front ≡ length failure.picks.items)

-- a run whose board was made so came to this
pub record IsAttempt (trial : Trial) (made : Board → Type 0) (attempt : Attempt) : Type 0 where
  pub board : Board
  pub run : RunsTo trial (picks_of board.history) board
  pub so : made board
  pub came_to : ComesTo trial board attempt

-- The runs of the numbers from a first one on were made, each as that of its number, and passed: so many of them ended,
-- and so many reached the limit.
pub data HavePassed (trial : Trial) (made : ℕ → Board → Type 0) (first : ℕ) : ℕ → ℕ → Type 0 where
  none_passed : HavePassed trial made first 0 0
  one_ended : {ended cut : ℕ} → HavePassed trial made first ended cut
      → IsAttempt trial (made (first + (ended + cut))) Ended → HavePassed trial made first (suc ended) cut
  one_cut : {ended cut : ℕ} → HavePassed trial made first ended cut
      → IsAttempt trial (made (first + (ended + cut))) Cut → HavePassed trial made first ended (suc cut)

-- the first run that failed, of runs below an end; or all passed
abbrev pub IsFirst : Trial → (ℕ → Board → Type 0) → ℕ → ℕ → ℕ → Option Found → Type 0
IsFirst trial made first end passed None = first ≤ end → first + passed ≡ end
IsFirst trial made first end passed (Some found) =
    IsAttempt trial (made found.run) (Failed found.failure) × (first + passed ≡ found.run) × (found.run < end)

-- a search over the runs from a first one up to an end: those before the one that failed were made, each as that of its
-- number, and passed
pub record IsSearch (trial : Trial) (made : ℕ → Board → Type 0) (first end : ℕ) (search : Search) : Type 0 where
  pub passed : HavePassed trial made first search.ended search.cut
  pub found : IsFirst trial made first end (search.ended + search.cut) search.found
