use Rattle.std.proofs.Common.{◌∙◌, ap, sym}
use Rattle.tm_core.specs.Theorem.{ShownMachine}
use Rattle.tm_core.proofs.Buffered.{no_rows, off_of}
use Rattle.tm_core.proofs.machine.Machine.nothing_pending.Goals as goal

pub returns-clause-none : goal.returns-clause-none
returns-clause-none g c =
    ap (λ (s : ShownMachine). s.pending) (sym c.self.view_is)
    ∙ no_rows c.self.invariant (off_of c.self.invariant c.self.view_is c.requires)
