-- Steps of one core side by side, none of them under an event.
use Rattle.std.proofs.Common.{◌≡◌, ℕ, List, [], ◌∷◌, ◌++◌, length, replicate, Option, None, Some, refl, sym, ap, ◌∙◌}
use Rattle.std.proofs.Common.{subst, false}
use Rattle.std.specs.Prelude.{All, MatchOption, IfOk, Result, Ok, Err}
use Rattle.std.proofs.lemmas.List.Elements.{All-head, All-tail}
use Rattle.tm_model.specs.Conflicts.{Doomed, doomed_after}
use Rattle.tm_model.proofs.NonePending.{NonePending, none_behind, tells_none}
use Rattle.tm_model.specs.Runs.{AreOwed, IsOwedUnder, TellNoAbort, is_aborted_by}
use Rattle.tm_model.specs.Setting.{Setting}
use Rattle.tm_model.specs.State.{State}
use Rattle.tm_model.specs.Steps.{step}
use Rattle.tm_model.specs.declared.outcome.Event.{Event}
use Rattle.tm_model.specs.declared.outcome.Outcome.{Outcome}
use Rattle.tm_model.specs.declared.outcome.Pick.{Pick}
use Rattle.elide_setup.specs.Owing.{AreOwedUnder, history_made}
use Rattle.elide_setup.specs.Runs.{AreMachineSteps}
use Rattle.elide_setup.specs.Schedules.{lone_pick, picks_made}
use Rattle.tm_core.proofs.NonePending.{none_stands}
use Rattle.tm_core.specs.Theorem.{IsRun, ShownMachine as Machine, TakesAll, TakesAlone, machine_setting}

-- the steps of such a history
abbrev pub lone_steps : List (ℕ × Outcome) → List (Pick × Outcome)
lone_steps [] = []
lone_steps (taken ∷ history) = (lone_pick taken.0, taken.1) ∷ lone_steps history

pub lone_history : (history : List (ℕ × Outcome)) → history_made (lone_steps history) ≡ history
lone_history [] = refl
lone_history (taken ∷ history) = ap (λ l. taken ∷ l) (lone_history history)

pub lone_picks : (core : ℕ) (history : List (ℕ × Outcome)) → All (λ (taken : ℕ × Outcome). taken.0 ≡ core) history →
    picks_made (lone_steps history) ≡ replicate (length history) (lone_pick core)
lone_picks core [] own = refl
lone_picks core (taken ∷ history) own =
    ap (λ (n : ℕ). lone_pick n ∷ picks_made (lone_steps history))
    (All-head (λ (t : ℕ × Outcome). t.0 ≡ core) taken history own)
    ∙ ap (λ l. lone_pick core ∷ l)
    (lone_picks core history (All-tail (λ (t : ℕ × Outcome). t.0 ≡ core) taken history own))

-- where no store is pending, none drains
pub lone_owed : (k : Setting) (a : State) (d : Doomed) (history : List (ℕ × Outcome)) → k.store_buffer ≡ 0
    → NonePending a → AreOwed k a d history → TellNoAbort history →
    AreOwedUnder k a d (lone_steps history)
lone_owed k a d [] off none owed tells = tt
lone_owed k a d (taken ∷ history) off none owed tells =
    let P : ℕ × Outcome → Type 0 = λ t. is_aborted_by t.1 ≡ false in
    (elim (step k a taken.0 taken.1) as (λ t. step k a taken.0 taken.1 ≡ t →
    MatchOption t ⊥ (λ b. AreOwed k b (doomed_after k a d taken.0 taken.1) history) →
    IsOwedUnder None k a d taken.0 taken.1
    × MatchOption t ⊥ (λ b. AreOwedUnder k b (doomed_after k a d taken.0 taken.1) (lone_steps history))) [
      | None ↦ λ is never. absurd never
      | Some b ↦ λ is more. (
        subst (λ (e : Option Event). IsOwedUnder e k a d taken.0 taken.1)
            (tells_none k a taken.0 taken.1 b none is (All-head P taken history tells)) owed.0,
        lone_owed k b (doomed_after k a d taken.0 taken.1) history off
            (none_behind k a taken.0 taken.1 b off none is) more (All-tail P taken history tells),
      )
    ]) refl owed.1

-- what a machine's own steps of a core come to
machine_run : (before after : Machine) (core count : ℕ) (history : List (ℕ × Outcome)) → before.store_buffer ≡ 0
    → before.pending ≡ [] → length history ≡ count →
    All (λ (taken : ℕ × Outcome). taken.0 ≡ core) history → TakesAll before after history →
    (steps : List (Pick × Outcome)) × (picks_made steps ≡ replicate count (lone_pick core))
    × AreMachineSteps before steps after
machine_run before after core count history off none size own takes = (
  lone_steps history,
  lone_picks core history own ∙ ap (λ n. replicate n (lone_pick core)) size,
  record {
    same = takes.same;
    goes_on = λ start state doomed earlier run.
        subst (λ (l : List (ℕ × Outcome)). IsRun start after state doomed (earlier ++ l)) (sym (lone_history history))
        (takes.runs start state doomed earlier run);
    under = λ state doomed stands. lone_owed (machine_setting before) state doomed history off
        (none_stands before state doomed stands none) (takes.takes state doomed stands).are_owed takes.tells;
  },
)

-- the same of the answer that tells how many they were
pub machine_ran : {E F : Type 0} (before after : Machine) (core : ℕ) (made : Result ℕ E) (told : Result ℕ F) →
    before.store_buffer ≡ 0 → before.pending ≡ [] →
    IfOk made (λ count. TakesAlone before after core count) → IfOk told (λ count. made ≡ Ok count) →
    IfOk told (λ count. (steps : List (Pick × Outcome)) × (picks_made steps ≡ replicate count (lone_pick core))
    × AreMachineSteps before steps after)
machine_ran before after core made (Err fault) off none takes told = tt
machine_ran {E} before after core made (Ok count) off none takes told =
    let alone : TakesAlone before after core count =
    subst (λ (r : Result ℕ E). IfOk r (λ n. TakesAlone before after core n)) told takes in
    machine_run before after core count alone.0 off none alone.1 alone.2 alone.3
