-- What is checked of a run at its end (docs/FORMATS.md, "Checks").
use Rattle.std.specs.Prelude.{◌≡◌, ℕ, ◌<◌, List, Some, All, slice_get}
use Rattle.tm_condition.specs.Conditions.{Compares, Holds, seen_of, value_of}
use Rattle.tm_condition.specs.declared.item.Item.{Item}
use Rattle.tm_condition.specs.declared.item.Item.TheVariants.{Number}
use Rattle.tm_rule.specs.declared.kinds.Stop.{Stop}
use Rattle.tm_hist.specs.Board.{IsFull, IsStopped, ShownBoard as Board, stop_shown}
use Rattle.tm_hist.specs.Machine.{core_count, shown_state}
use Rattle.tm_check.specs.Counts.{count_in}
use Rattle.tm_check.specs.declared.check.Check.{Check}
use Rattle.tm_check.specs.declared.check.Check.TheVariants.{Demanded, Forbidden, NoStop, AllStop}
use Rattle.tm_check.specs.declared.clause.Quantity.{Quantity}
use Rattle.tm_check.specs.declared.clause.Quantity.TheVariants as quantity
use Rattle.tm_check.specs.declared.clause.RunClause.{RunClause}
use Rattle.tm_check.specs.declared.clause.RunClause.TheVariants.{OfMachine, Compare}

-- each core has stopped
abbrev pub HasEnded : Board → Type 0
HasEnded board = (core : ℕ) → core < core_count board.machine → IsStopped board core

-- some core has stopped for this reason
abbrev pub StopsBy : Board → Stop → Type 0
StopsBy board why =
    (core : ℕ) × (core < core_count board.machine) × (stop_shown (shown_state board.machine core) ≡ Some why)

-- a value of a run's end as one of a machine: a count of its history is a number
abbrev pub item_of : Board → Quantity → Item
item_of board (quantity.OfMachine item) = item
item_of board (quantity.OfRun count) = Number (count_in count board.history)

-- a condition holds at a run's end
abbrev pub HoldsAt : Board → RunClause → Type 0
HoldsAt board (OfMachine clause) = Holds (seen_of board.machine) clause
HoldsAt board (Compare left comparison right) =
    Compares comparison (value_of (seen_of board.machine) (item_of board left))
    (value_of (seen_of board.machine) (item_of board right))

abbrev pub AllHold : Board → List RunClause → Type 0
AllHold board clauses = All (HoldsAt board) clauses

-- A check is violated. Conditions are judged where each core has stopped.
abbrev pub IsViolated : Board → Check → Type 0
IsViolated board (Demanded clauses) = HasEnded board × ¬ (AllHold board clauses.items)
IsViolated board (Forbidden clauses) = HasEnded board × AllHold board clauses.items
IsViolated board (NoStop why) = StopsBy board why
IsViolated board AllStop = IsFull board × ¬ (HasEnded board)

-- the check with this index is violated
abbrev pub IsViolatedAt : Board → List Check → ℕ → Type 0
IsViolatedAt board checks index = (check : Check) × (slice_get checks index ≡ Some check) × IsViolated board check

-- none is
abbrev pub NoneViolated : Board → List Check → Type 0
NoneViolated board checks = All (λ check. ¬ (IsViolated board check)) checks
