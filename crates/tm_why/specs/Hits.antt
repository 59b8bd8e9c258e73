-- Rows of hits, by the numbers of the cores.
use Rattle.std.specs.Prelude.{◌≡◌, ℕ, ◌<◌, ◌≤◌, List, Option, None, length, slice_index_or}
use Rattle.tm_model.specs.declared.explain.Hit.{Hit}
use Rattle.tm_core.specs.Theorem.{ShownMachine}
use Rattle.tm_why.specs.Said.{IsSaidOf, IsSaidOfDrain}

-- no core is hit
abbrev pub HasNoHits : List (Option Hit) → Type 0
HasNoHits hits = (core : ℕ) → slice_index_or hits core None ≡ None

-- those of the core of this number, of so many: on each other core what is said of it, on itself none, nor on one of a
-- number from this one on
pub record AreSaid (says : ℕ → Option Hit → Type 0) (count number : ℕ) (hits : List (Option Hit)) (below : ℕ)
    : Type 0 where
  pub said : (other : ℕ) → other < count → (other ≡ number → ⊥) → says other (slice_index_or hits other None)
  pub own : slice_index_or hits number None ≡ None
  pub most : below ≤ count
  pub none : (core : ℕ) → below ≤ core → slice_index_or hits core None ≡ None

-- of a core's next step what the machine says
abbrev pub AreHits : ShownMachine → ℕ → List (Option Hit) → ℕ → Type 0
AreHits machine number hits below = AreSaid (IsSaidOf machine number) (length machine.views) number hits below

-- and of a drain in its place
abbrev pub AreDrainHits : ShownMachine → ℕ → List (Option Hit) → ℕ → Type 0
AreDrainHits machine number hits below =
    AreSaid (IsSaidOfDrain machine number) (length machine.views) number hits below
