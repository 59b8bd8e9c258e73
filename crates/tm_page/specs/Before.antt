-- What is kept of a core before its step.
use Rattle.std.specs.Prelude.{◌≡◌, ℕ, ◌<◌, length, slice_get}
use Rattle.std.specs.FinSet as set
use Rattle.tm_core.specs.Theorem.{ShownMachine, pending_at, view_at}
use Rattle.tm_why.specs.Asked.{IsAsked}
use Rattle.tm_page.specs.declared.before.Before.{Before}
use Rattle.tm_page.specs.Applied.{is_listed}
use Rattle.tm_page.specs.Difference.{IsReachSaid}

pub record IsBefore (machine : ShownMachine) (core : ℕ) (before : Before) : Type 0 where
  pub within : core < length machine.views
  pub asked : IsAsked machine core before.asked
  pub regs : before.regs ≡ (view_at machine core).regs
  pub reach : IsReachSaid machine core before.reach
  pub reads : (line : ℕ) → is_listed before.reads.items line ≡ set.contains (view_at machine core).reads line
  pub writes : (line : ℕ) → is_listed before.writes.items line ≡ set.contains (view_at machine core).writes line
  pub pending : before.pending ≡ length (pending_at machine core)
  pub oldest : before.oldest ≡ slice_get (pending_at machine core) 0
