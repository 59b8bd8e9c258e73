-- What a machine shows of its cores.
use Rattle.std.specs.Prelude.{ℕ, length}
use Rattle.ia_regs.specs.declared.Regs.{Regs}
use Rattle.tm_model.specs.declared.outcome.CoreState.{CoreState}
use Rattle.tm_model.specs.declared.outcome.CoreState.TheVariants as state
use Rattle.tm_core.specs.Theorem.{ShownMachine, view_at}

abbrev pub core_count : ShownMachine → ℕ
core_count machine = length machine.views

abbrev pub shown_state : ShownMachine → ℕ → CoreState
shown_state machine core = (view_at machine core).mode

abbrev pub shown_regs : ShownMachine → ℕ → Regs
shown_regs machine core = (view_at machine core).regs

-- how deep the transaction is that is open, or that a conflict hit, and 0 outside
abbrev pub depth_of : CoreState → ℕ
depth_of state.Running = 0
depth_of state.Mid = 0
depth_of (state.Open depth) = depth
depth_of (state.Condemned depth) = depth
depth_of (state.Stopped why) = 0
