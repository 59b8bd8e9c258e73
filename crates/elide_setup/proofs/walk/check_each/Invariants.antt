use Rattle.std.proofs.Common.{ℕ, ◌<◌, slice_index_or}
use Rattle.tm_model.specs.declared.outcome.Pick.{Pick}
use Rattle.elide_setup.proofs.walk.check_each.Given as goal

-- those so far are of a core
abbrev pub invariant-loop-pick : goal.invariant-loop-pick
invariant-loop-pick l = (k : ℕ) (none : Pick) → k < l.pick-index → (slice_index_or l.steps k none).core < l.cores
