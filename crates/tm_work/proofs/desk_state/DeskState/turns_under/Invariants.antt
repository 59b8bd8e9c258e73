use Rattle.std.proofs.Common.{◌≡◌, ◌+◌, ◌-◌, ◌≤◌}
use Rattle.tm_work.proofs.desk_state.DeskState.turns_under.Given as goal

abbrev pub invariant-loop-made : goal.invariant-loop-made
invariant-loop-made g l = record {
  kinds : l.events ≡ l.initial.events;
  core : l.seat.core ≡ l.initial.seat.core;
  most : l.made ≤ l.fn.most;
  steps : l.seat.progress.steps ≡ l.initial.seat.progress.steps + l.made;
  ended : l.seat.progress.ended ≡ l.initial.seat.progress.ended;
}

abbrev pub decreases-loop-made : goal.decreases-loop-made
decreases-loop-made g l = l.fn.most - l.made
