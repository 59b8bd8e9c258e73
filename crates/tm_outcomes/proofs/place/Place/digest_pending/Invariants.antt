use Rattle.std.proofs.Common.{◌≡◌, take}
use Rattle.tm_outcomes.specs.Digests.{mixed_pending}
use Rattle.tm_outcomes.proofs.place.Place.digest_pending.Given as goal

abbrev pub invariant-loop-store : goal.invariant-loop-store
invariant-loop-store l = l.digest.value ≡ mixed_pending l.initial.digest.value (take l.store-index l.stores)
