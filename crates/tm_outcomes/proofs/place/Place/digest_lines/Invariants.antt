use Rattle.std.proofs.Common.{◌≡◌, take}
use Rattle.tm_outcomes.specs.Digests.{mixed_lines}
use Rattle.tm_outcomes.proofs.place.Place.digest_lines.Given as goal

abbrev pub invariant-loop-line : goal.invariant-loop-line
invariant-loop-line l =
    l.digest.value ≡ mixed_lines l.self.machine.memory l.written.opening.items l.initial.digest.value
    (take l.line-index l.written.lines.items)
