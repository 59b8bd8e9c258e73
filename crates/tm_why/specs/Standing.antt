-- A hit stands on a core exactly while the core is doomed.
use Rattle.std.specs.Prelude.{◌≡◌, ℕ, ◌<◌, List, ◌∷◌, Option, Some, None, length}
use Rattle.std.specs.Option.{is_some}
use Rattle.tm_model.specs.Conflicts.{Doomed, doomed_after}
use Rattle.tm_model.specs.Explained.{IsHitTold, owed_now}
use Rattle.tm_model.specs.declared.outcome.Event.{Event}
use Rattle.tm_model.specs.declared.outcome.Event.TheVariants as event
use Rattle.tm_model.specs.Setting.{Setting}
use Rattle.tm_model.specs.State.{State}
use Rattle.tm_model.specs.declared.outcome.Outcome.{Outcome}
use Rattle.tm_why.specs.Types.{Asked}
use Rattle.tm_why.specs.Watched.{Told, drain_hit_on, hit_in, hit_on}

-- of a machine with room for so many pending stores
abbrev pub AreStanding : ℕ → Doomed → List Told → Type 0
AreStanding most doomed steps = (core : ℕ) → is_some (doomed core) ≡ is_some (hit_in most core steps)

-- before a step of the core that was asked of, its hits on another core were told: those of the step that it makes by
-- itself, and where a store of it is pending those of a drain
pub record AreHitsTold (setting : Setting) (state : State) (doomed : Doomed) (asked : Asked) (other : ℕ) : Type 0 where
  pub step : IsHitTold None setting state doomed asked.core other (hit_on asked other)
  pub drain : 0 < length (state.pending asked.core) →
      IsHitTold (Some event.Drain) setting state doomed asked.core other (drain_hit_on asked other)

-- where it is so, it is so behind each step, under an event or under none, that is owed and of which the hits were
-- told: so from a run's begin on, where no core is doomed and no step was told
abbrev pub HitsStand : Type 0
HitsStand =
    (most : ℕ) (event : Option Event) (setting : Setting) (state : State) (doomed : Doomed) (asked : Asked)
    (earlier : List Told) →
    ((other : ℕ) → (other ≡ asked.core → ⊥) → AreHitsTold setting state doomed asked other) →
    AreStanding most doomed earlier →
    let outcome : Outcome = owed_now event setting state doomed asked.core in
    AreStanding most (doomed_after setting state doomed asked.core outcome) ((asked, outcome) ∷ earlier)
