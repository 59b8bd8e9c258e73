-- How a machine with store buffers is seen as one value, by what it would show without them, and what holds of them
-- between steps.
use Rattle.std.specs.Prelude.{◌≡◌, ℕ, ◌<◌, ◌≤◌, All, List, Vec, if◌then◌else◌, length, map, nat_eq, slice_index_or}
use Rattle.std.specs.Prelude.{Option, [], vec_capacity}
use Rattle.tm_core.specs.PendingStep.{stepped_pending}
use Rattle.tm_core.specs.StoreBuffers.{IsStorable, Leaves}
use Rattle.tm_core.specs.Theorem.{SameMachine, ShownMachine, view_at}
use Rattle.tm_core.specs.Types.{Event, Outcome, Store}
use Rattle.tm_model.specs.Setting.{Setting, setting_of}
use Rattle.tm_model.specs.State.{Pending}

-- with these stores pending, at most so many of each core
abbrev pub with_pending : ShownMachine → ℕ → List Pending → ShownMachine
with_pending machine most pending = record {
  code = machine.code;
  base = machine.base;
  read_lines = machine.read_lines;
  write_lines = machine.write_lines;
  store_buffer = most;
  memory = machine.memory;
  views = machine.views;
  pending = pending;
}

abbrev pub pending_in : {Z : Type 0} → List (Vec Store Z) → List Pending
pending_in rows = map (λ row. row.items) rows

-- the stores of a core that are pending, at most so many, each with a place in a memory of this size
pub record IsRow {Z : Type 0} (size most : ℕ) (row : Vec Store Z) : Type 0 where
  pub storable : All (IsStorable size) row.items
  pub few : length row.items ≤ most
  pub room : most ≤ vec_capacity row

abbrev pub AreRows : {Z : Type 0} → ℕ → ℕ → List (Vec Store Z) → Type 0
AreRows {Z} size most rows =
    (number : ℕ) (other : Vec Store Z) → number < length rows → IsRow size most (slice_index_or rows number other)

-- Where no store may be pending, there is no row of stores, and each core's step is made on memory itself. Else each
-- core has a row.
pub record IsBuffered {Z : Type 0} (machine : ShownMachine) (direct most : ℕ) (rows : List (Vec Store Z))
    (under : Vec Store Z) : Type 0 where
  pub plain : machine.store_buffer ≡ 0
  pub none : machine.pending ≡ []
  pub direct_is : direct ≡ (if nat_eq most 0 then length machine.views else 0)
  pub count : length rows ≡ (if nat_eq most 0 then 0 else length machine.views)
  pub each : AreRows (length machine.memory) most rows
  pub laid : most ≤ vec_capacity under

-- a machine of which at most so many stores of a core may be pending, and none is yet
pub record IsOpenedWith (machine : ShownMachine) (most : ℕ) (opened : ShownMachine) : Type 0 where
  pub pending : List Pending
  pub shown : opened ≡ with_pending machine most pending
  pub none : (number : ℕ) → slice_index_or pending number [] ≡ []

-- the rules of a machine of which at most so many stores of a core may be pending
abbrev pub setting_at : ShownMachine → ℕ → Setting
setting_at machine most =
    setting_of machine.code machine.base (length machine.memory) machine.read_lines machine.write_lines most

-- a step of the core of this number, of which these stores are pending, under an event or under none, gives this
-- outcome, and leaves so what a machine would show without store buffers
pub record MakesPending (event : Option Event) (most : ℕ) (before after : ShownMachine) (pending pending_now : Pending)
    (number : ℕ) (outcome : Outcome) : Type 0 where
  pub same : SameMachine before after
  pub step : Leaves (stepped_pending event (setting_at before most) before.memory pending (view_at before number))
      after.memory pending_now (view_at before) (view_at after) (length before.views) number outcome

-- a row of a machine before its first step
pub record IsEmptyRow {Z : Type 0} (most : ℕ) (row : Vec Store Z) : Type 0 where
  pub none : row.items ≡ []
  pub room : most ≤ vec_capacity row

-- the stores of a row are given up, and its room is kept
pub record IsGivenUp {Z : Type 0} (before after : Vec Store Z) : Type 0 where
  pub none : after.items ≡ []
  pub room : vec_capacity after ≡ vec_capacity before

-- the same with the rows of all cores, of which that core's alone changes
pub record StepsRows {Z : Type 0} (event : Option Event) (most : ℕ) (before after : ShownMachine)
    (rows rows_now : List (Vec Store Z)) (number : ℕ) (outcome : Outcome) : Type 0 where
  pub made : MakesPending event most before after (slice_index_or (pending_in rows) number [])
      (slice_index_or (pending_in rows_now) number []) number outcome
  pub others : (other : ℕ) → (other ≡ number → ⊥) →
      slice_index_or (pending_in rows_now) other [] ≡ slice_index_or (pending_in rows) other []
  pub count : length rows_now ≡ length rows
  pub each : AreRows (length after.memory) most rows_now

-- rows have room for the stores of as many others
abbrev pub HaveRoom : {Z : Type 0} → List (Vec Store Z) → List (Vec Store Z) → Type 0
HaveRoom {Z} rows twins =
    (number : ℕ) (other : Vec Store Z) → number < length rows →
    length (slice_index_or twins number other).items ≤ vec_capacity (slice_index_or rows number other)

-- a row has the stores of another one, and its room is kept
pub record IsCopied {Z : Type 0} (before twin after : Vec Store Z) : Type 0 where
  pub same : after.items ≡ twin.items
  pub room : vec_capacity after ≡ vec_capacity before

pub record AreCopied {Z : Type 0} (before twins after : List (Vec Store Z)) : Type 0 where
  pub count : length after ≡ length before
  pub each : (number : ℕ) (other : Vec Store Z) → number < length before →
      IsCopied (slice_index_or before number other) (slice_index_or twins number other)
      (slice_index_or after number other)

pub record AreGivenUp {Z : Type 0} (before after : List (Vec Store Z)) : Type 0 where
  pub count : length after ≡ length before
  pub each : (number : ℕ) (other : Vec Store Z) → number < length before →
      IsGivenUp (slice_index_or before number other) (slice_index_or after number other)
