use Rattle.std.proofs.Common.{length, ◌-◌, ◌≡◌, ◌≤◌, take}
use Rattle.std.specs.Io.KnownBytes.{Appends}
use Rattle.text_out.proofs.out.ToWriterOut.put.Given as goal

-- the bytes before `at` were written, and no failure was counted
abbrev pub invariant-pieces : goal.invariant-pieces
invariant-pieces g l = (l.at ≤ length l.bytes)
    × Appends (g.W.Write.contents l.initial.self.writer) (g.W.Write.contents l.self.writer) (take l.at l.bytes)
    × (l.self.failures ≡ l.initial.self.failures)

abbrev pub decreases-pieces : goal.decreases-pieces
decreases-pieces g l = length l.bytes - l.at
