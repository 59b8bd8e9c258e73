use Rattle.std.proofs.Common.{◌≡◌, ◌++◌, take}
use Rattle.elide_checks.specs.EquNames.{names_in}
use Rattle.elide_checks.proofs.constants.EquNamesWalk.go_over.Given as goal

-- the names of the entries so far
abbrev pub invariant-loop-entry : goal.invariant-loop-entry
invariant-loop-entry l = l.self.names.items ≡ l.initial.self.names.items ++ names_in (take l.entry-index l.entries)
