-- Which aborts from outside of the program steps may tell of, where their events are drawn.
use Rattle.std.specs.Prelude.{◌≡◌, ⊤, ℕ, true, List, All}
use Rattle.tm_model.specs.declared.outcome.Outcome.{Outcome}
use Rattle.tm_model.specs.declared.outcome.Outcome.TheVariants.{AbortedBy}
use Rattle.tm_model.specs.Runs.{TellNoAbort}
use Rattle.tm_pick.specs.Kinds.{has_kind}
use Rattle.tm_pick.specs.declared.events.Events.{Events}
use Rattle.tm_pick.specs.declared.events.Events.TheVariants.{Never, Rate, Draw}
use Rattle.tm_pick.specs.declared.kinds.Kinds.{Kinds}

-- one of these kinds, where the outcome tells of one; a drain is none
abbrev pub IsAbortOfKinds : Kinds → Outcome → Type 0
IsAbortOfKinds kinds (AbortedBy by status) = has_kind kinds by ≡ true
IsAbortOfKinds kinds outcome = ⊤

-- none where there are no events, those of the kinds that are asked for, and any where the kinds are drawn too
abbrev pub TellDrawn : Events → List (ℕ × Outcome) → Type 0
TellDrawn Never steps = TellNoAbort steps
TellDrawn (Rate one_in kinds) steps = All (λ (step : ℕ × Outcome). IsAbortOfKinds kinds step.1) steps
TellDrawn Draw steps = ⊤
