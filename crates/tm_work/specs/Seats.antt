-- What seats know of a board, and when a ledger of that agrees with the board (docs/CLAIMS.md, "Histories and
-- workers").
use Rattle.std.specs.Prelude.{◌≡◌, ◌≢◌, ◌⊎◌, ⊤, ℕ, ◌+◌, ◌<◌, ◌≤◌, ◌==◌, Bool, true, false, List, [], ◌∷◌, ◌++◌, length}
use Rattle.std.specs.Prelude.{All, count_by, drop, IfNone, IfSome, Option, Some, None, slice_get, slice_set}
use Rattle.tm_model.specs.declared.outcome.Outcome.{Outcome}
use Rattle.tm_model.specs.declared.outcome.Outcome.TheVariants.{Idle}
use Rattle.tm_hist.specs.Board.{ShownBoard, SameBoard, IsHistory, IsStopped, IsFull}
use Rattle.tm_model.specs.Runs.{TellNoAbort}
use Rattle.tm_pick.specs.declared.events.Events.{Events}
use Rattle.tm_work.specs.Events.{TellDrawn}
use Rattle.tm_work.specs.declared.progress.Progress.{Progress}
use Rattle.tm_work.specs.declared.progress.Receipt.{Receipt}

abbrev pub progress_of : ℕ → Option Receipt → Bool → Progress
progress_of steps last ended = record { steps = steps; last = last; ended = ended }

-- before the first turn
abbrev pub no_progress : Progress
no_progress = progress_of 0 None false

-- after a turn that made a step
abbrev pub progress_after_step : Progress → Receipt → Progress
progress_after_step progress receipt = progress_of (progress.steps + 1) (Some receipt) progress.ended

-- after a turn that made none
abbrev pub progress_at_end : Progress → Progress
progress_at_end progress = progress_of progress.steps progress.last true

-- what contracts see of a seat: its core, and what its turns came to
pub record SeatProgress : Type 0 where
  pub core : ℕ
  pub progress : Progress

abbrev pub seat_with : ℕ → Progress → SeatProgress
seat_with core progress = record { core = core; progress = progress }

-- how often the core stands in the list
abbrev pub count : ℕ → List (ℕ × Outcome) → ℕ
count core history = count_by (λ (step : ℕ × Outcome). step.0 == core) history

-- the part of the history that the board given did not have
abbrev pub new_part : ShownBoard → ShownBoard → List (ℕ × Outcome)
new_part given board = drop (length given.history) board.history

-- the board has the program and the limits of the one given, its history goes on from that one's, and no step of the
-- new part is that of a stopped core, which alone is idle
pub record GoesOn (given board : ShownBoard) : Type 0 where
  pub same : SameBoard given board
  pub history : board.history ≡ given.history ++ new_part given board
  pub none_idle : All (λ (step : ℕ × Outcome). step.1 ≢ Idle) (new_part given board)

-- each abort from outside of the program in the new part of the history is one that these events may come to
abbrev pub IsDisturbed : Events → ShownBoard → ShownBoard → Type 0
IsDisturbed events given board = TellDrawn events (new_part given board)

-- the receipt is of this core's last step in the new part of the history: there is none of it behind that one
abbrev pub IsReceipt : ShownBoard → ShownBoard → ℕ → Receipt → Type 0
IsReceipt given board core receipt =
    (length given.history ≤ receipt.index) × (slice_get board.history receipt.index ≡ Some (core, receipt.outcome))
    × (count core (drop (receipt.index + 1) board.history) ≡ 0)

-- and without a receipt the core has no step there
abbrev pub TellsLast : ShownBoard → ShownBoard → ℕ → Option Receipt → Type 0
TellsLast given board core None = count core (new_part given board) ≡ 0
TellsLast given board core (Some receipt) = IsReceipt given board core receipt

-- what progress says of its core is so: it counts the core's steps in the new part of the history, its receipt is that
-- of the last of them, and where it ended, the board shows the core stopped or the history full
pub record Tells (given board : ShownBoard) (core : ℕ) (progress : Progress) : Type 0 where
  pub steps : progress.steps ≡ count core (new_part given board)
  pub last : TellsLast given board core progress.last
  pub ended : progress.ended ≡ true → IsStopped board core ⊎ IsFull board

-- what a seat says of its core is so
abbrev pub SeatTells : ShownBoard → ShownBoard → SeatProgress → Type 0
SeatTells given board seat = Tells given board seat.core seat.progress

-- each line of the ledger tells what is so of the core with the line's number
pub record LedgerAgrees (given board : ShownBoard) (ledger : List Progress) : Type 0 where
  pub goes_on : GoesOn given board
  pub lines : (core : ℕ) (progress : Progress) → slice_get ledger core ≡ Some progress → Tells given board core progress

-- a step of this core with this receipt led from one board to the other
pub record IsStepMade (before after : ShownBoard) (core : ℕ) (receipt : Receipt) : Type 0 where
  pub index : receipt.index ≡ length before.history
  pub same : SameBoard before after
  pub history : after.history ≡ before.history ++ (core, receipt.outcome) ∷ []
  pub stops : (other : ℕ) → IsStopped before other → IsStopped after other
  pub going : receipt.outcome ≢ Idle
  pub stopped : ¬ (IsStopped before core)
  pub room : length before.history < before.limit
  pub limited : before.limit ≤ 16777216

-- the receipt is that of the last step of the board
pub record IsLast (board : ShownBoard) (last : Option Receipt) : Type 0 where
  pub receipt : Receipt
  pub is : last ≡ Some receipt
  pub index : receipt.index + 1 ≡ length board.history
  pub core : ℕ
  pub step : slice_get board.history receipt.index ≡ Some (core, receipt.outcome)

-- a receipt, and of a later step than the one before, where there was one
abbrev pub IsLater : Option Receipt → Option Receipt → Type 0
IsLater before None = ⊥
IsLater None (Some now) = ⊤
IsLater (Some before) (Some now) = before.index < now.index

-- so many steps of this core led from one board to the other, none of them aborted from outside of the program, and its
-- progress from the one to the other: in any ledger that agrees with the first board and has the first progress of this
-- core, the second one agrees with the second board
pub record AreStepsMade (before after : ShownBoard) (core : ℕ) (was now : Progress) (made : ℕ) : Type 0 where
  pub agrees : (given : ShownBoard) (ledger : List Progress) → LedgerAgrees given before ledger →
      slice_get ledger core ≡ Some was → LedgerAgrees given after (slice_set ledger core now)
  pub steps : (given : ShownBoard) (ledger : List Progress) → LedgerAgrees given before ledger →
      slice_get ledger core ≡ Some was → now.steps ≡ was.steps + made
  pub later : (given : ShownBoard) (ledger : List Progress) → LedgerAgrees given before ledger →
      slice_get ledger core ≡ Some was → 0 < made → IsLater was.last now.last
  pub same : made ≡ 0 → now.last ≡ was.last
  pub alone : (given : ShownBoard) → GoesOn given before → (part : List (ℕ × Outcome))
      × (new_part given after ≡ new_part given before ++ part) × TellNoAbort part

-- a turn of a seat: a step, whose receipt is of a later one than the seat had and of none that is idle, or none at the
-- end
pub record IsTurn (before : SeatProgress) (made : Option Receipt) (after : SeatProgress) : Type 0 where
  pub core : after.core ≡ before.core
  pub some : IfSome made (λ receipt. after.progress ≡ progress_after_step before.progress receipt)
  pub going : IfSome made (λ receipt. receipt.outcome ≢ Idle)
  pub later : IfSome made (λ receipt. IfSome before.progress.last (λ last. last.index < receipt.index))
  pub none : IfNone made (after.progress ≡ progress_at_end before.progress)

-- up to so many turns of a seat, of which so many made a step: fewer only where one made none
pub record AreTurns (before : SeatProgress) (asked made : ℕ) (after : SeatProgress) : Type 0 where
  pub core : after.core ≡ before.core
  pub most : made ≤ asked
  pub steps : after.progress.steps ≡ before.progress.steps + made
  pub fewer : made < asked → after.progress.ended ≡ true
  pub all : made ≡ asked → after.progress.ended ≡ before.progress.ended

-- what the turns at a desk made of the board given: its history goes on, its machine is the run of it, and its aborts
-- from outside of the program are of these events
pub record IsWorkedOn (events : Events) (given board : ShownBoard) : Type 0 where
  pub goes_on : GoesOn given board
  pub disturbed : IsDisturbed events given board
  pub run : IsHistory board

-- no seat had a turn
abbrev pub HaveNoProgress : List Progress → Type 0
HaveNoProgress ledger = (core : ℕ) (progress : Progress) → slice_get ledger core ≡ Some progress
    → progress ≡ no_progress

-- the seats of the first cores, in order, of which none had a turn
abbrev pub AreSeats : List SeatProgress → ℕ → Type 0
AreSeats seats cores =
    (length seats ≡ cores) × ((core : ℕ) → core < cores → slice_get seats core ≡ Some (seat_with core no_progress))
