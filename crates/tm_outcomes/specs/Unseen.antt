-- Steps that no other core sees, and that are the same whatever drains and steps of other cores come before them.
use Rattle.std.specs.Prelude.{◌≡◌, ℕ, Bool, true, false, not, ◌&&◌, List, [], ◌∷◌, Option, Some, None}
use Rattle.ia_regs.specs.declared.Regs.{Regs}
use Rattle.tm_model.specs.Conflicts.{addresses_written_by}
use Rattle.tm_model.specs.Owed.{owed_outcome}
use Rattle.tm_model.specs.Setting.{Setting}
use Rattle.tm_model.specs.State.{Closed, Core, Opened, Pending, seen_memory}
use Rattle.tm_model.specs.Steps.{must_wait}
use Rattle.tm_model.specs.declared.outcome.Event.{Event}
use Rattle.tm_model.specs.declared.outcome.Event.TheVariants as event
use Rattle.tm_model.specs.declared.outcome.Pick.{Pick}
use Rattle.tm_outcomes.specs.Schedules.{Situation, after_pick}

abbrev pub are_none : List ℕ → Bool
are_none [] = true
are_none (address ∷ addresses) = false

-- under this event the step of a core of which these stores are pending is a drain, whatever the core is at
abbrev pub drains : Option Event → Pending → Bool
drains (Some event.Drain) (oldest ∷ younger) = true
drains event pending = false

-- The instruction at these registers, outside of transactions, with these stores pending, loads nothing, does not wait,
-- and writes nothing in memory: its own store, where it has one, is pending behind it.
abbrev pub touches_nothing : Setting → List ℕ → Pending → Regs → Bool
touches_nothing setting memory pending regs =
    let seen : List ℕ = seen_memory memory pending in
    are_none (setting.load_of regs)
    && (not (must_wait setting seen pending (Closed regs) (owed_outcome setting seen (Closed regs) None))
    && are_none
    (addresses_written_by setting memory pending (Closed regs) (owed_outcome setting seen (Closed regs) None)))

-- The next step of a core, with its depth where it is doomed. One that touches no memory conflicts with no transaction
-- and depends on registers alone; so it is outside of transactions. Inside, a step of another core can make an abort of
-- whatever is next, but where the core is doomed already (SDM volume 1, 16.2.4.2): its abort is then certain.
abbrev pub is_unseen : Setting → List ℕ → Pending → Core → Option ℕ → Bool
is_unseen setting memory pending (Closed regs) None = touches_nothing setting memory pending regs
is_unseen setting memory pending (Opened regs steps) (Some depth) = true
is_unseen setting memory pending core doom = false

-- this pick is such a step, and no drain
abbrev pub IsUnseen : Setting → Situation → Pick → Type 0
IsUnseen setting now pick =
    (drains pick.event (now.state.pending pick.core) ≡ false)
    × (is_unseen setting now.state.memory (now.state.pending pick.core) (now.state.cores pick.core)
    (now.doomed pick.core) ≡ true)

-- from one situation these steps, each of them unseen and under an event that is allowed, lead to another
abbrev pub LeadUnseen : Setting → (Option Event → Type 0) → Situation → List Pick → Situation → Type 0
LeadUnseen setting allowed now [] end = now ≡ end
LeadUnseen setting allowed now (pick ∷ picks) end =
    IsUnseen setting now pick × allowed pick.event
    × ((next : Situation) × ((after_pick setting now pick ≡ Some next) × LeadUnseen setting allowed next picks end))
