use Rattle.std.proofs.Common.{◌≡◌, take}
use Rattle.tm_outcomes.specs.Digests.{mixed_cores}
use Rattle.tm_outcomes.proofs.place.Place.digest_cores.Given as goal

abbrev pub invariant-loop-core : goal.invariant-loop-core
invariant-loop-core l = l.digest.value ≡ mixed_cores l.initial.digest.value (take l.core l.self.machine.views)
