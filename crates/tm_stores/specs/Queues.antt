-- The queues of the cores as one value, and what is kept of them as rows.
use Rattle.std.specs.Prelude.{ℕ, ◌<◌, ◌≤◌, List, [], Vec, length, map, slice_index_or, vec_capacity}
use Rattle.tm_stores.specs.declared.change.MadeStore.{MadeStore}

-- what contracts see of them
pub record ShownStores : Type 0 where
  pub most : ℕ  -- the most stores of a core that are pending
  pub queues : List (List MadeStore)  -- of each core, the oldest first; where none may be pending, the list is empty

-- the stores of a core that are pending
abbrev pub queue_at : ShownStores → ℕ → List MadeStore
queue_at stores core = slice_index_or stores.queues core []

-- ---- rows

abbrev pub queues_in : {Z : Type 0} → List (Vec MadeStore Z) → List (List MadeStore)
queues_in rows = map (λ row. row.items) rows

-- each has room for so many
abbrev pub HaveRoom : {Z : Type 0} → ℕ → List (Vec MadeStore Z) → Type 0
HaveRoom {Z} most rows =
    (core : ℕ) (other : Vec MadeStore Z) → core < length rows → most ≤ vec_capacity (slice_index_or rows core other)
