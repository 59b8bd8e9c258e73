use Rattle.std.proofs.Common.{inl, refl}
use Rattle.elide_checks.proofs.conditions.add_clause.Goals as goal

pub returns-in-None : goal.returns-in-None
returns-in-None c = inl (rw c.in-None.is at c.in_ok-clause.ensures, refl)
