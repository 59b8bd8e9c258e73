-- The transactions that a step hits, as they are counted (docs/FORMATS.md, "Statistics").
use Rattle.std.specs.Prelude.{◌≡◌, ℕ, Bool, true, false, if◌then◌else◌, List, [], None}
use Rattle.tm_core.specs.Theorem.{ShownMachine as Machine, view_at}
use Rattle.tm_model.specs.declared.explain.Reach.{Reach}
use Rattle.tm_model.specs.declared.outcome.Outcome.{Outcome}
use Rattle.tm_model.specs.declared.outcome.Outcome.TheVariants.{AbortedBy, Drained}
use Rattle.tm_sets.specs.declared.interface.Kind.{Kind}
use Rattle.tm_sets.specs.declared.interface.Kind.TheVariants.{Read, Write}
use Rattle.tm_stats.specs.declared.conflicts.Conflict.{Conflict}

abbrev pub is_store : Kind → Bool
is_store Read = false
is_store Write = true

-- the instruction at this address hits, on this line, the transaction of the core of this number, whose place is that
-- of its outermost XBEGIN
pub record IsConflict (machine : Machine) (instruction number on : ℕ) (kind : Kind) (conflict : Conflict) : Type 0 where
  pub line : conflict.line ≡ on
  pub by : conflict.by ≡ instruction
  pub victim : conflict.victim ≡ (view_at machine number).base.eip
  pub stores : conflict.stores ≡ is_store kind

-- the hits that a step has made: none, where an abort from outside came in its place, and those of a drain, where one
-- did
abbrev pub hits_made : Outcome → List (ℕ × Conflict) → List (ℕ × Conflict) → List (ℕ × Conflict)
hits_made (AbortedBy by status) hits drains = []
hits_made Drained hits drains = drains
hits_made outcome hits drains = hits

-- the bytes of a step that others see: of one whose store is pending now, those that it loads
abbrev pub reach_alone : Bool → Reach → Reach
reach_alone pends step = if pends then record { load = step.load; store = None } else step

abbrev pub reach_made : Outcome → Bool → Reach → Reach → Reach
reach_made Drained pends step drain = drain
reach_made outcome pends step drain = reach_alone pends step
