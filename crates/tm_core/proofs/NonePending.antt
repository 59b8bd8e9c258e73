-- What a machine shows and stands for, of which no store is pending.
use Rattle.std.specs.Prelude.{slice_index_or}
use Rattle.std.proofs.Common.{◌≡◌, ℕ, ◌<◌, List, [], length, Some, sym, ap, ◌∙◌, subst}
use Rattle.tm_model.specs.Conflicts.{Doomed}
use Rattle.tm_model.specs.Shown.{view_of}
use Rattle.tm_model.specs.State.{Pending, State}
use Rattle.tm_model.proofs.NonePending.{NonePending, seen_is}
use Rattle.tm_core.specs.Theorem.{ShownMachine, StandsFor, machine_setting, pending_at, view_at}

pub none_shown : (machine : ShownMachine) (number : ℕ) → machine.pending ≡ [] → pending_at machine number ≡ []
none_shown machine number none = ap (λ (left : List Pending). slice_index_or left number []) none

-- so that the cores of two such machines are alike in that
pub none_alike : (a b : ShownMachine) → a.pending ≡ [] → b.pending ≡ [] → (number : ℕ) → number < length a.views →
    pending_at a number ≡ pending_at b number
none_alike a b here there number below = none_shown a number here ∙ sym (none_shown b number there)

-- none is in the states that it stands for
pub none_of : (machine : ShownMachine) (state : State) (doomed : Doomed) → StandsFor machine state doomed →
    machine.pending ≡ [] → (number : ℕ) → number < length machine.views → state.pending number ≡ []
none_of machine state doomed stands none number below =
    sym (stands.same_pending number below) ∙ none_shown machine number none

pub none_stands : (machine : ShownMachine) (state : State) (doomed : Doomed) → StandsFor machine state doomed →
    machine.pending ≡ [] → NonePending state
none_stands machine state doomed stands none number below =
    none_of machine state doomed stands none number
    (subst (λ (count : ℕ). number < count) (sym stands.same_count) below)

-- each core shows what it does on memory itself
pub shows_alone : (machine : ShownMachine) (state : State) (doomed : Doomed) → StandsFor machine state doomed →
    machine.pending ≡ [] → (number : ℕ) → number < length machine.views →
    view_of (machine_setting machine) state.memory (state.cores number) (doomed number) ≡ Some (view_at machine number)
shows_alone machine state doomed stands none number below =
    subst (λ (memory : List ℕ).
    view_of (machine_setting machine) memory (state.cores number) (doomed number) ≡ Some (view_at machine number))
    (seen_is state number (none_of machine state doomed stands none number below))
    (stands.each number below)
