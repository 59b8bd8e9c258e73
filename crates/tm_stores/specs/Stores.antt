-- The stores of a core that are pending, each by the step that made it, the oldest first, as they come and go with the
-- steps of the core. A machine has none of them in memory yet (tm_model's Pending has the stores themselves).
use Rattle.std.specs.Prelude.{ℕ, Bool, if◌then◌else◌, List, [], ◌∷◌, ◌++◌, length, nat_lt}
use Rattle.tm_model.specs.declared.outcome.Outcome.{Outcome}
use Rattle.tm_model.specs.declared.outcome.Outcome.TheVariants.{Drained}
use Rattle.tm_stores.specs.declared.change.Change.{Change}
use Rattle.tm_stores.specs.declared.change.Change.TheVariants.{Drains, Pends, Stays}
use Rattle.tm_stores.specs.declared.change.MadeStore.{MadeStore}

-- what a step does to them: in its place the oldest reaches memory, or its own store, where that pends, is one of them
abbrev pub change_by : Outcome → Bool → MadeStore → Change
change_by Drained pends store = Drains
change_by outcome pends store = if pends then Pends store else Stays

-- those of a core behind such a step; no more than so many are pending
abbrev pub queue_after : ℕ → Change → List MadeStore → List MadeStore
queue_after most (Pends store) queue = if nat_lt (length queue) most then queue ++ store ∷ [] else queue
queue_after most Drains [] = []
queue_after most Drains (oldest ∷ younger) = younger
queue_after most Stays queue = queue
