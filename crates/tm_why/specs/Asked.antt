-- What a machine says of a core's next step before it is made.
use Rattle.std.specs.Prelude.{◌≡◌, ℕ, ◌<◌, ◌≤◌, Option, None, length}
use Rattle.tm_model.specs.Explained.{abort_reason}
use Rattle.tm_model.specs.State.{State, seen_by}
use Rattle.tm_core.specs.Theorem.{ShownMachine, StandsFor, machine_setting, view_at}
use Rattle.tm_why.specs.Said.{IsPendsSaid, IsReachSaid, IsSaidOf, IsSaidOfDrain}
use Rattle.tm_why.specs.Types.{Asked}
use Rattle.tm_why.specs.Watched.{drain_hit_on, hit_on}

pub record IsAsked (machine : ShownMachine) (number : ℕ) (asked : Asked) : Type 0 where
  pub core : asked.core ≡ number
  pub eip : asked.eip ≡ (view_at machine number).regs.eip
  pub hits : (other : ℕ) → other < length machine.views → (other ≡ number → ⊥) →
      IsSaidOf machine number other (hit_on asked other)
  pub own : hit_on asked number ≡ None
  pub absent : (other : ℕ) → length machine.views ≤ other → hit_on asked other ≡ None
  pub drain_hits : (other : ℕ) → other < length machine.views → (other ≡ number → ⊥) →
      IsSaidOfDrain machine number other (drain_hit_on asked other)
  pub drain_own : drain_hit_on asked number ≡ None
  pub drain_absent : (other : ℕ) → length machine.views ≤ other → drain_hit_on asked other ≡ None
  pub pends : IsPendsSaid machine number asked.pends
  pub reason : (state : State) (doomed : ℕ → Option ℕ) → StandsFor machine state doomed →
      asked.reason ≡ abort_reason (machine_setting machine) (seen_by state number) (state.cores number) (doomed number)
  pub reach : IsReachSaid machine number asked.reach
