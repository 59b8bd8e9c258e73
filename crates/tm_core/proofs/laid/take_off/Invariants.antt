use Rattle.std.proofs.Common.{◌≡◌, reverse, take}
use Rattle.tm_model.specs.State.{seen_memory}
use Rattle.tm_core.proofs.laid.take_off.Given as goal

-- memory after those that are taken off so far
abbrev pub invariant-loop-taken : goal.invariant-loop-taken
invariant-loop-taken l = l.memory ≡ seen_memory l.initial.memory (take l.taken (reverse l.under))
