-- The steps that are told as those that made the pending stores are those that did.
use Rattle.std.specs.Prelude.{◌≡◌, ℕ, suc, List, ◌∷◌, length, map, Option, Some, None}
use Rattle.std.specs.Option.{is_some}
use Rattle.ia_exec.specs.declared.done.Store.{Store}
use Rattle.tm_model.specs.Conflicts.{Doomed}
use Rattle.tm_model.specs.Explained.{owed_now}
use Rattle.tm_model.specs.Setting.{Setting}
use Rattle.tm_model.specs.State.{State, seen_by}
use Rattle.tm_model.specs.Steps.{step, store_buffered}
use Rattle.tm_model.specs.declared.outcome.Event.{Event}
use Rattle.tm_model.specs.declared.outcome.Outcome.{Outcome}
use Rattle.tm_why.specs.Watched.{Told, queue_in}
use Rattle.tm_why.specs.declared.asked.Asked.{Asked}

-- of a step of the core that was asked of, the store that is pending behind it, if one is
abbrev pub store_pended : Option Event → Setting → State → Doomed → ℕ → Option Store
store_pended event setting state doomed core =
    store_buffered setting (seen_by state core) (state.cores core) (owed_now event setting state doomed core)

-- Where the step of each number stored this: of each core, each pending store is that of the step which is told as the
-- one that made it, the oldest of the oldest and so on; at most so many are pending.
abbrev pub ArePending : (ℕ → Store) → ℕ → State → List Told → Type 0
ArePending stored most state steps =
    (core : ℕ) → state.pending core ≡ map (λ made. stored made.step) (queue_in most core steps)

-- where it is so, it is so behind each step, under an event or under none, of which it was told whether its own store
-- pends under none
abbrev pub StoresStand : Type 0
StoresStand =
    (stored : ℕ → Store) (event : Option Event) (setting : Setting) (state next : State) (doomed : Doomed)
    (asked : Asked) (earlier : List Told) →
    asked.pends ≡ is_some (store_pended None setting state doomed asked.core) →
    ((store : Store) → store_pended event setting state doomed asked.core ≡ Some store →
    stored (suc (length earlier)) ≡ store) →
    let outcome : Outcome = owed_now event setting state doomed asked.core in
    step setting state asked.core outcome ≡ Some next →
    ArePending stored setting.store_buffer state earlier →
    ArePending stored setting.store_buffer next ((asked, outcome) ∷ earlier)
