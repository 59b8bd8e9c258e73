use Rattle.std.proofs.Common.{◌≡◌, map}
use Rattle.tm_check.specs.declared.clause.RunClause.TheVariants.{OfMachine}
use Rattle.elide_checks.proofs.ends.on_machine.Given as goal

-- the conditions so far
abbrev pub invariant-loop-clause : goal.invariant-loop-clause
invariant-loop-clause l = l.yielded ≡ map OfMachine l.left.items
