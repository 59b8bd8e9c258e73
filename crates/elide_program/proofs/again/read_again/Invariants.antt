-- The buffer keeps its length, and an interrupted read consumes nothing.
use Rattle.std.proofs.Common.{◌≡◌, length}
use Rattle.std.specs.Io.KnownBytes.{Keeps}
use Rattle.elide_program.proofs.again.read_again.Given as goal

abbrev pub invariant-tries : goal.invariant-tries
invariant-tries g l = (length l.buf ≡ length l.initial.buf)
    × Keeps (g.D.Read.remaining l.initial.device) (g.D.Read.remaining l.device)
