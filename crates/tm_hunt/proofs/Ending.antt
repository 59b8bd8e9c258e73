-- What a run comes to that is over.
use Rattle.std.proofs.Common.{◌≡◌, ◌⊎◌, inl, inr, ℕ, List, length, refl, sym, ap, ◌∙◌, subst}
use Rattle.std.proofs.lemmas.Option.{get_or_from_slice_get, slice_get_within}
use Rattle.ia_image.specs.Program.{ProgramValue as Program}
use Rattle.tm_core.specs.Theorem.{ShownMachine as Machine}
use Rattle.tm_hist.specs.Board.{IsFull, IsHistory, ShownBoard as Board}
use Rattle.tm_check.specs.Checks.{HasEnded, IsViolated, IsViolatedAt, NoneViolated}
use Rattle.tm_core.specs.declared.limits.Limits.{Limits}
use Rattle.tm_model.specs.Runs.{picks_of}
use Rattle.tm_model.specs.declared.outcome.Pick.{Pick}
use Rattle.tm_pick.specs.Kinds.{AreAmong, AreOfKinds}
use Rattle.tm_pick.specs.declared.kinds.Kinds.{Kinds}
use Rattle.tm_pick.specs.declared.method.Plan.{Plan}
use Rattle.tm_hunt.specs.Attempts.{ComesTo, IsAttempt, IsFailure}
use Rattle.tm_hunt.specs.Hunt.{IsOver, IsTrialOf}
use Rattle.tm_hunt.specs.Runs.{AreKindsOf, AreStepsOf, IsOfRun, kinds_told}
use Rattle.tm_hunt.specs.declared.attempt.Attempt.{Attempt}
use Rattle.tm_hunt.specs.declared.attempt.Attempt.TheVariants.{Failed}
use Rattle.tm_hunt.specs.declared.failure.Failure.{Failure}
use Rattle.tm_hunt.specs.declared.trial.Trial.{Trial}
use Rattle.tm_hunt.proofs.KeptKinds.{told_of}

not_both : (trial : Trial) (board : Board) (index : ℕ) → NoneViolated board trial.checks.now →
    IsViolatedAt board trial.checks.now index → ⊥
not_both trial board index none found =
    let check = found.0 in
    none index check (slice_get_within trial.checks.now index check found.1)
    (subst (IsViolated board) (sym (get_or_from_slice_get trial.checks.now index check check found.1)) found.2)

-- a run that is over and violates no check has come to its end
has_come : (trial : Trial) (board : Board) → IsOver trial board → NoneViolated board trial.checks.now →
    HasEnded board ⊎ IsFull board
has_come trial board (inl over) none = over
has_come trial board (inr found) none = absurd (not_both trial board found.0 none found.1)

-- or to the limit, where some core has not stopped
was_full : (board : Board) → HasEnded board ⊎ IsFull board → ¬ (HasEnded board) → IsFull board
was_full board (inl ended) runs = absurd (runs ended)
was_full board (inr full) runs = full

pub was_cut : (trial : Trial) (board : Board) → IsOver trial board → NoneViolated board trial.checks.now
    → ¬ (HasEnded board) → IsFull board
was_cut trial board over none runs = was_full board (has_come trial board over none) runs

-- a run of the trial's board that comes to this is such an attempt
pub attempt_of : (trial : Trial) (made : Board → Type 0) (board : Board) → IsTrialOf trial board → IsHistory board
    → made board → (attempt : Attempt) →
    ComesTo trial board attempt → IsAttempt trial made attempt
attempt_of trial made board of_trial is_run so attempt came = record {
  board = board;
  run = record { of_trial = of_trial; steps = refl; is_run = is_run };
  so = so;
  came_to = came;
}

-- steps of what begins the run of a number are that run's
pub run_of_number : {Steps : Type 0} (begins : Plan → ℕ → ℕ → ℕ → Steps → Type 0)
    (picks : Steps → Machine → ℕ → List ℕ → Pick → Steps → Type 0) (kinds_of : Steps → Kinds)
    (plan : Plan) (number cores : ℕ) (first : Steps) (trial : Trial)
    → begins plan number cores trial.limits.stores first → AreKindsOf plan.events trial.limits.stores (kinds_of first)
    → cores ≡ length trial.program.now.entries
    → (attempt : Attempt) → IsAttempt trial (AreStepsOf picks kinds_of first) attempt
    → IsAttempt trial (IsOfRun begins picks plan number) attempt
run_of_number begins picks kinds_of plan number cores first trial begun drawn count attempt h =
    let same : cores ≡ length h.board.program.entries =
    count ∙ ap (λ (program : Program). length program.entries) (sym h.run.of_trial.program) in
    let room : trial.limits.stores ≡ h.board.limits.stores =
    sym (ap (λ (limits : Limits). limits.stores) h.run.of_trial.limits) in
    record {
      board = h.board;
      run = h.run;
      so = record {
        first = first;
        begun = subst (λ (n : ℕ). begins plan number (length h.board.program.entries) n first) room
            (subst (λ (n : ℕ). begins plan number n trial.limits.stores first) same begun);
        last = h.so.last;
        made = h.so.made;
        under = (
          drawn.0,
          drawn.1,
          told_of h.board.limits.stores (kinds_of first) drawn.0 (picks_of h.board.history)
              (subst (λ (n : ℕ). AreAmong (kinds_of first) (kinds_told n drawn.0)) room drawn.2) h.so.kinds,
        );
      };
      came_to = h.came_to;
    }

-- an attempt that failed is a failure
pub failure_of : (trial : Trial) (made : Board → Type 0) (failure : Failure) → IsAttempt trial made (Failed failure)
    → IsFailure trial failure
failure_of trial made failure h = record {
  fails = record {
    board = h.board;
    run = record { of_trial = h.run.of_trial; steps = sym h.came_to.1; is_run = h.run.is_run };
    violates = h.came_to.0;
  };
  whole = λ short. h.came_to.2;
}

-- and its events are of the kinds of what picked its steps, or drains for which they wait
pub failure_kinds : {Steps : Type 0} (picks : Steps → Machine → ℕ → List ℕ → Pick → Steps → Type 0)
    (kinds_of : Steps → Kinds) (first : Steps) (trial : Trial) (failure : Failure) →
    IsAttempt trial (AreStepsOf picks kinds_of first) (Failed failure) →
    AreOfKinds (kinds_told trial.limits.stores (kinds_of first)) failure.picks.items
failure_kinds picks kinds_of first trial failure h =
    subst (λ (stores : ℕ). AreOfKinds (kinds_told stores (kinds_of first)) failure.picks.items)
    (ap (λ limits. limits.stores) h.run.of_trial.limits)
    (subst (AreOfKinds (kinds_told h.board.limits.stores (kinds_of first))) (sym h.came_to.1) h.so.kinds)
