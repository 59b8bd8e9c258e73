use Rattle.std.proofs.Common.{◌≡◌, ◌+◌, ◌*◌, ◌^◌, take}
use Rattle.std.specs.List.{fold}
use Rattle.tm_outcomes.specs.Digests.{mixed}
use Rattle.tm_outcomes.proofs.place.add_regs.Given as goal

abbrev pub invariant-loop-register : goal.invariant-loop-register
invariant-loop-register l =
    l.digest.value
    ≡ fold mixed (mixed l.fn.digest.value (l.regs.eip * 2 ^ 32 + l.regs.flags.0)) (take l.register-index l.regs.gpr)
