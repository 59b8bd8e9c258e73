-- Why counts are not had, from what one call tells up to what the command is asked.
use Rattle.std.proofs.Common.{◌≡◌, ◌<◌, ◌≤◌, ℕ, Bool, List, Option, ◌⊎◌, length, arith, inl, inr}
use Rattle.std.specs.Borrow.{Bor}
use Rattle.std.specs.Prelude.{All}
use Rattle.elide_setup.specs.Refused.{IsAnyWant, IsNextMade, IsNoWalk, IsStepRefused, IsUnrecorded}
use Rattle.elide_setup.specs.Schedules.{listed_in}
use Rattle.tm_hist.specs.Board.{ShownBoard as Board}
use Rattle.tm_core.specs.Theorem.{ShownMachine as Machine}
use Rattle.elide_setup.specs.declared.fault.Refusal.{Refusal}
use Rattle.elide_setup.specs.declared.plan.Course.{Course}
use Rattle.tm_model.specs.declared.outcome.Pick.{Pick}
use Rattle.tm_stats.specs.declared.cause.AbortCause.{AbortCause}
use Rattle.elide_setup.proofs.DueCores.{due_core, same_cores}
use Rattle.elide_stats.proofs.Steps.{Counts, walk_counted}
use Rattle.elide_stats.specs.Refused.{IsUncounted, IsUncountedStep, unrecorded, unroomed}
use Rattle.elide_stats.specs.declared.counting.Counting.{Counting}

-- a step of a core that the machine has is not counted
pub of_step : (machine : Machine) (pick : Pick) (why : Refusal) → pick.core < length machine.views
    → IsUncountedStep machine pick why → IsAnyWant why
of_step machine pick why below (inl none) =
    let beyond : length machine.views ≤ pick.core = none.beyond in absurd (omega arith)
of_step machine pick why below (inr none) = none

-- the steps of a walk are not made, or its schedule is not written
pub of_walk : (same : AbortCause → AbortCause → Bool) (asked : Course) (cores : ℕ) (path : Option (Bor (List ℕ)))
    (before : Counting) (why : Refusal) →
    cores ≡ length before.machine.views → All (λ (pick : Pick). pick.core < cores) (listed_in asked) →
    IsNoWalk (Counts same) (λ counting pick why. IsUncountedStep counting.machine pick why) asked cores before why
    ⊎ IsUnrecorded path why →
    IsUncounted asked (length before.machine.views) path why
of_walk same asked cores path before why has fit (inl (inl h)) =
    let kept : length h.after.machine.views ≡ length before.machine.views =
    same_cores h.made before.machine h.after.machine (walk_counted same h.made before h.after h.lead).0 in
    let below : h.pick.core < cores = due_core asked cores h.made h.pick fit h.due in
    unroomed (of_step h.after.machine h.pick why (omega arith) h.refused)
of_walk same asked cores path before why has fit (inl (inr none)) = unroomed (inr none)
of_walk same asked cores path before why has fit (inr h) = unrecorded h

-- the steps of a board are not made again, on a machine with the cores of its program
pub of_history : (same : AbortCause → AbortCause → Bool) (board : Board) (before : Counting) (why : Refusal) →
    length before.machine.views ≡ length board.program.entries →
    IsStepRefused (Counts same) (λ counting pick why. IsUncountedStep counting.machine pick why) (IsNextMade board)
    before why → IsAnyWant why
of_history same board before why has h =
    let kept : length h.after.machine.views ≡ length before.machine.views =
    same_cores h.made before.machine h.after.machine (walk_counted same h.made before h.after h.lead).0 in
    let below : h.pick.core < length board.program.entries = h.due.core in
    of_step h.after.machine h.pick why (omega arith) h.refused
