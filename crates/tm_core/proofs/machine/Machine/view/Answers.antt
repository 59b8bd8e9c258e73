use Rattle.std.proofs.Common.{ap, ◌∙◌}
use Rattle.tm_core.specs.Theorem.{ShownMachine}
use Rattle.tm_core.proofs.machine.Machine.view.Goals as goal

pub returns : goal.returns
returns g c = c.view.ensures ∙ ap (λ (s : ShownMachine). s.memory) c.self.view_is
