-- An interrupted write appends nothing.
use Rattle.std.specs.Io.KnownBytes.{Keeps}
use Rattle.elide_program.proofs.again.write_again.Given as goal

abbrev pub invariant-tries : goal.invariant-tries
invariant-tries g l = Keeps (g.D.Write.contents l.initial.device) (g.D.Write.contents l.device)
