use Rattle.std.proofs.Common.{◌≡◌}
use Rattle.tm_core.specs.Theorem.{pending_at}
use Rattle.tm_outcomes.specs.Digests.{mixed_buffers}
use Rattle.tm_outcomes.proofs.place.Place.digest_buffers.Given as goal

abbrev pub invariant-loop-core : goal.invariant-loop-core
invariant-loop-core l = l.digest.value ≡ mixed_buffers (pending_at l.self.machine) l.initial.digest.value l.core
