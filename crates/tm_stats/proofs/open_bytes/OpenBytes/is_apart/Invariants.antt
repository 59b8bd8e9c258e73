use Rattle.std.proofs.Common.{◌≡◌, ◌+◌, ◌<◌, ◌≤◌, ℕ, List, false}
use Rattle.tm_stats.specs.OpenBytes.{AreOpenBytes, hits_byte}
use Rattle.tm_stats.specs.declared.open_bytes.ByteStep.{ByteStep}
use Rattle.tm_stats.proofs.open_bytes.OpenBytes.is_apart.Given as goal

-- the two meet on none of the bytes so far
abbrev pub invariant-loop-place : goal.invariant-loop-place
invariant-loop-place l = (l.place ≤ 64)
    × ((earlier other : List ByteStep) → AreOpenBytes l.self earlier → AreOpenBytes l.victim other →
    (place : ℕ) → place < l.place → hits_byte l.step earlier other (l.first + place) ≡ false)
