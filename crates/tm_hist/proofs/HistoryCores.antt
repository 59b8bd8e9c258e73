-- The steps of a history are of cores that its program has.
use Rattle.std.proofs.Common.{◌≡◌, ◌<◌, ℕ, zero, suc, List, [], ◌∷◌, Option, Some, None, length, arith, refl, subst}
use Rattle.std.proofs.Common.{sym, ap, inl, inr}
use Rattle.std.specs.Prelude.{IfSome, nat_lt, option_and_then, option_map, slice_get}
use Rattle.std.proofs.lemmas.Bool.{cases_Bool}
use Rattle.std.proofs.lemmas.Bool.Decides.{nat_tests}
use Rattle.std.proofs.lemmas.Option.{same_Some}
use Rattle.tm_model.specs.Runs.{picks_of}
use Rattle.tm_model.specs.Steps.{Next, after_step, run, state_with, step}
use Rattle.tm_model.specs.declared.outcome.Outcome.{Outcome}
use Rattle.tm_model.specs.declared.outcome.Pick.{Pick}
use Rattle.tm_hist.specs.Board.{IsHistory, ShownBoard as Board, board_setting}
use Rattle.tm_hist.proofs.Owed.{told_at}
use Rattle.tm_model.specs.Setting.{Setting}
use Rattle.tm_model.specs.State.{State, opening_state}

-- a state's cores are as many behind a step of one of them
changed : (state next : State) (core : ℕ) (change : Option Next) →
    option_map (state_with state core) change ≡ Some next → next.count ≡ state.count
changed state next core None e = cc
changed state next core (Some made) e =
    sym (ap (λ (s : State). s.count) (same_Some (state_with state core made) next e))

-- a step that is allowed is of one of the state's cores
allowed : (k : Setting) (state next : State) (core : ℕ) (outcome : Outcome) → step k state core outcome ≡ Some next →
    (core < state.count) × (next.count ≡ state.count)
allowed k state next core outcome e = elim (cases_Bool (nat_lt core state.count)) [
  | inl below ↦ (
    grind (arith, nat_tests, below),
    changed state next core (after_step k state.memory (state.pending core) (state.cores core) outcome) (rw below at e),
  )
  | inr beyond ↦ let none : None ≡ Some next = rw beyond at e in cc
]

first_of : (k : Setting) (end : State) (history : List (ℕ × Outcome)) (first : Option State) →
    option_and_then (λ next. run k next history) first ≡ Some end →
    (next : State) × (first ≡ Some next) × (run k next history ≡ Some end)
first_of k end history None e = cc
first_of k end history (Some next) e = (next, refl, e)

run_within : (k : Setting) (state end : State) (history : List (ℕ × Outcome)) (index : ℕ) (pair : ℕ × Outcome) →
    run k state history ≡ Some end → slice_get history index ≡ Some pair → pair.0 < state.count
run_within k state end [] index pair ran at = cc
run_within k state end (taken ∷ history) zero pair ran at =
    let first = first_of k end history (step k state taken.0 taken.1) ran in
    let made = allowed k state first.0 taken.0 taken.1 first.1 in
    subst (λ (p : ℕ × Outcome). p.0 < state.count) (same_Some taken pair at) made.0
run_within k state end (taken ∷ history) (suc index) pair ran at =
    let first = first_of k end history (step k state taken.0 taken.1) ran in
    let made = allowed k state first.0 taken.0 taken.1 first.1 in
    subst (λ (n : ℕ). pair.0 < n) made.1 (run_within k first.0 end history index pair first.2 at)

-- what holds of the value in a Some holds under IfSome
if_some : {X : Type 0} (found : Option X) (P : X → Type 0) → ((x : X) → found ≡ Some x → P x) → IfSome found P
if_some None P holds = tt
if_some (Some x) P holds = holds x refl

-- those of a board are of its program
pub steps_within : (board : Board) (index : ℕ) → IsHistory board →
    IfSome (slice_get board.history index) (λ pair. pair.0 < length board.program.entries)
steps_within board index law =
    if_some (slice_get board.history index) (λ pair. pair.0 < length board.program.entries)
    (λ pair at. run_within (board_setting board) (opening_state board.program) law.end board.history index pair
    law.is_run at)

-- and so are their picks
pub picks_within : (board : Board) (index : ℕ) → IsHistory board →
    IfSome (slice_get (picks_of board.history) index) (λ pick. pick.core < length board.program.entries)
picks_within board index law =
    if_some (slice_get (picks_of board.history) index) (λ pick. pick.core < length board.program.entries)
    (λ (pick : Pick) at.
    let told = told_at board.history index pick at in
    run_within (board_setting board) (opening_state board.program) law.end board.history index (pick.core, told.outcome)
    law.is_run told.at)
