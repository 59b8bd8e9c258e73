-- How often something came about in a run, by the outcomes in its history (docs/FORMATS.md, "Checks").
use Rattle.std.specs.Prelude.{ℕ, ◌==◌, ◌||◌, ◌&&◌, Bool, true, false, List, Option, Some, None, count_by}
use Rattle.tm_model.specs.Explained.{is_abort}
use Rattle.tm_model.specs.declared.outcome.Interference.{Interference}
use Rattle.tm_model.specs.declared.outcome.Interference.TheVariants.{Interrupt, Eviction, Snoop}
use Rattle.tm_model.specs.declared.outcome.Outcome.{Outcome}
use Rattle.tm_model.specs.declared.outcome.Outcome.TheVariants.{Committed, Aborted, AbortedBy}
use Rattle.tm_status.specs.Status.{status_of}
use Rattle.tm_check.specs.declared.count.AbortKind.{AbortKind}
use Rattle.tm_check.specs.declared.count.AbortKind.TheVariants.{Program, Outside}
use Rattle.tm_check.specs.declared.count.Cores.{Cores}
use Rattle.tm_check.specs.declared.count.Cores.TheVariants.{All, One}
use Rattle.tm_check.specs.declared.count.Count.{Count}
use Rattle.tm_check.specs.declared.count.Count.TheVariants.{Commits, Aborts}

abbrev pub is_among : Cores → ℕ → Bool
is_among All core = true
is_among (One one) core = core == one

abbrev pub is_commit : Outcome → Bool
is_commit Committed = true
is_commit _ = false

abbrev pub are_same : Interference → Interference → Bool
are_same Interrupt Interrupt = true
are_same Eviction Eviction = true
are_same Snoop Snoop = true
are_same _ _ = false

-- an abort for a cause in the program has its status, nested or not (SDM volume 1, 16.3.5); one from outside is told
abbrev pub is_of_kind : AbortKind → Outcome → Bool
is_of_kind (Program cause) (Aborted status) =
    (status == status_of cause false) || (status == status_of cause true)
is_of_kind (Outside by) (AbortedBy other status) = are_same by other
is_of_kind _ _ = false

abbrev pub is_wanted_abort : Option AbortKind → Outcome → Bool
is_wanted_abort None outcome = is_abort outcome
is_wanted_abort (Some kind) outcome = is_of_kind kind outcome

-- a step, of this core and with this outcome, is counted
abbrev pub is_counted : Count → (ℕ × Outcome) → Bool
is_counted (Commits cores) step = is_among cores step.0 && is_commit step.1
is_counted (Aborts kind cores) step = is_among cores step.0 && is_wanted_abort kind step.1

-- how many there are in a history
abbrev pub count_in : Count → List (ℕ × Outcome) → ℕ
count_in count history = count_by (is_counted count) history
