use Rattle.std.proofs.Common.{subst}
use Rattle.ia_names.proofs.Namings.{naming_less}
use Rattle.ia_source.specs.Source.{Tells}
use Rattle.ia_source.proofs.rest.Rest.part.Goals as goal

pub returns-in-Err-clause-read : goal.returns-in-Err-clause-read
returns-in-Err-clause-read c r h =
    subst (λ t. Tells t c.in-Err.fault)
    (c.lines.invariant.read r (naming_less r.naming c.lines.names c.push_next.new.names c.push_next.ensures.grows h))
    (c.in-Err.ensures.read r h)
