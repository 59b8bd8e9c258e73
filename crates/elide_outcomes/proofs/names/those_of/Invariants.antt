use Rattle.std.specs.Prelude.{All}
use Rattle.elide_outcomes.specs.Names.{IsLabelOf}
use Rattle.elide_outcomes.proofs.names.those_of.Given as goal

-- the labels so far are the file's
abbrev pub invariant-loop-label : goal.invariant-loop-label
invariant-loop-label l = All (IsLabelOf l.file) l.labels.items
