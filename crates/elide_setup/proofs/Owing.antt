-- Steps that are owed under the events of their picks, and more of them.
use Rattle.std.proofs.Common.{◌≡◌, ℕ, List, [], ◌∷◌, ◌++◌, Some, None, sym, subst}
use Rattle.std.specs.Prelude.{MatchOption, option_and_then}
use Rattle.std.proofs.lemmas.Option.{same_Some}
use Rattle.tm_model.specs.Conflicts.{Doomed, doomed_after}
use Rattle.tm_model.specs.Runs.{doomed_at_end}
use Rattle.elide_setup.specs.Owing.{AreOwedUnder, history_made}
use Rattle.tm_model.specs.Setting.{Setting}
use Rattle.tm_model.specs.State.{State}
use Rattle.tm_model.specs.Steps.{run, step}
use Rattle.tm_model.specs.declared.outcome.Outcome.{Outcome}
use Rattle.tm_model.specs.declared.outcome.Pick.{Pick}

-- a run that goes on by steps that are owed under their picks' events
pub under_all : (k : Setting) (a : State) (d : Doomed) (steps others : List (Pick × Outcome)) (last : State)
    → AreOwedUnder k a d steps →
    run k a (history_made steps) ≡ Some last →
    AreOwedUnder k last (doomed_at_end k a d (history_made steps)) others →
    AreOwedUnder k a d (steps ++ others)
under_all k a d [] others last owed is under =
    let same : a ≡ last = same_Some a last is in
    subst (λ (s : State). AreOwedUnder k s d others) (sym same) under
under_all k a d (made ∷ steps) others last owed is under = (
  owed.0,
  (elim (step k a made.0.core made.1) as (λ t.
      MatchOption t ⊥ (λ b. AreOwedUnder k b (doomed_after k a d made.0.core made.1) steps) →
      option_and_then (λ b. run k b (history_made steps)) t ≡ Some last →
      AreOwedUnder k last
      (elim t [ None ↦ d | Some b ↦ doomed_at_end k b (doomed_after k a d made.0.core made.1) (history_made steps) ])
      others →
      MatchOption t ⊥ (λ b. AreOwedUnder k b (doomed_after k a d made.0.core made.1) (steps ++ others))) [
        | None ↦ λ never _ _. absurd never
        | Some b ↦ λ h e u. under_all k b (doomed_after k a d made.0.core made.1) steps others last h e u
      ]) owed.1 is under,
)

-- the last step of a run is allowed
pub step_allowed : (k : Setting) (a : State) (history : List (ℕ × Outcome)) (core : ℕ) (o : Outcome)
    (last next : State) →
    run k a history ≡ Some last → run k a (history ++ (core, o) ∷ []) ≡ Some next
    → MatchOption (step k last core o) ⊥ (λ _. Unit {0})
step_allowed k a [] core o last next is more =
    let same : a ≡ last = same_Some a last is in
    subst (λ (s : State). MatchOption (step k s core o) ⊥ (λ _. Unit {0})) same
    ((elim (step k a core o)
    as (λ t. option_and_then (λ b. run k b []) t ≡ Some next → MatchOption t ⊥ (λ _. Unit {0})) [
      | None ↦ λ e. cc
      | Some b ↦ λ e. tt
    ]) more)
step_allowed k a (taken ∷ history) core o last next is more =
    (elim (step k a taken.0 taken.1) as (λ t.
    option_and_then (λ b. run k b history) t ≡ Some last →
    option_and_then (λ b. run k b (history ++ (core, o) ∷ [])) t ≡ Some next →
    MatchOption (step k last core o) ⊥ (λ _. Unit {0})) [
      | None ↦ λ e _. cc
      | Some b ↦ λ e more. step_allowed k b history core o last next e more
    ]) is more
