-- The status of a core's last abort, with a step more.
use Rattle.std.proofs.Common.{◌≡◌, ℕ, zero, suc, ◌<◌, List, [], ◌∷◌, Some, None, refl, ◌∙◌, ap, take, length, arith}
use Rattle.std.specs.Prelude.{fold, unwrap_or}
use Rattle.std.specs.List.{slice_get}
use Rattle.std.specs.Option.{option_and_then}
use Rattle.tm_model.specs.declared.outcome.Outcome.{Outcome}
use Rattle.gdb_target.specs.Shown.{last_status, own_status}

-- from this status on
abbrev pub status_after : ℕ → ℕ → List (ℕ × Outcome) → ℕ
status_after core status history = fold (λ s step. unwrap_or (own_status core step) s) status history

after_more : (core status : ℕ) (history : List (ℕ × Outcome)) (n : ℕ) → n < length history →
    status_after core status (take (suc n) history)
    ≡ unwrap_or (option_and_then (own_status core) (slice_get history n)) (status_after core status (take n history))
after_more core status [] n h = absurd (omega arith)
after_more core status (step ∷ history) zero h = refl
after_more core status (step ∷ history) (suc n) h =
    after_more core (unwrap_or (own_status core step) status) history n (omega arith)

-- the last step is an abort of the core
pub last_is : (core status n : ℕ) (history : List (ℕ × Outcome)) → n < length history
    → option_and_then (own_status core) (slice_get history n) ≡ Some status
    → last_status core (take (suc n) history) ≡ status
last_is core status n history h is =
    after_more core 0 history n h ∙ ap (λ o. unwrap_or o (last_status core (take n history))) is

-- the last step is none
pub last_is_not : (core n : ℕ) (history : List (ℕ × Outcome)) → n < length history
    → option_and_then (own_status core) (slice_get history n) ≡ None
    → last_status core (take (suc n) history) ≡ last_status core (take n history)
last_is_not core n history h is =
    after_more core 0 history n h ∙ ap (λ o. unwrap_or o (last_status core (take n history))) is
