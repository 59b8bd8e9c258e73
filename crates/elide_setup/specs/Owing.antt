-- The steps of a schedule, each a pick and what it came to.
use Rattle.std.specs.Prelude.{ℕ, List, [], ◌∷◌, MatchOption, map}
use Rattle.tm_model.specs.Conflicts.{Doomed, doomed_after}
use Rattle.tm_model.specs.Runs.{IsOwedUnder}
use Rattle.tm_model.specs.Setting.{Setting}
use Rattle.tm_model.specs.State.{State}
use Rattle.tm_model.specs.Steps.{step}
use Rattle.tm_model.specs.declared.outcome.Outcome.{Outcome}
use Rattle.tm_model.specs.declared.outcome.Pick.{Pick}

-- their history
abbrev pub history_made : List (Pick × Outcome) → List (ℕ × Outcome)
history_made steps = map (λ made. (made.0.core, made.1)) steps

-- each is allowed, and its outcome is the one that is owed under the event of its pick
abbrev pub AreOwedUnder : Setting → State → Doomed → List (Pick × Outcome) → Type 0
AreOwedUnder setting state doomed [] = Unit {0}
AreOwedUnder setting state doomed (made ∷ steps) =
    IsOwedUnder made.0.event setting state doomed made.0.core made.1
    × MatchOption (step setting state made.0.core made.1) ⊥
    (λ next. AreOwedUnder setting next (doomed_after setting state doomed made.0.core made.1) steps)
