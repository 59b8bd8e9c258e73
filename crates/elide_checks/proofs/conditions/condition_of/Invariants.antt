use Rattle.std.proofs.Common.{length}
use denote.Text.{Utf8}
use denote.Shadow.{shadow}
use Rattle.elide_checks.specs.Constants.{is_among}
use Rattle.elide_checks.proofs.Parts.{GoesOn, GoesWrong}
use Rattle.elide_checks.proofs.conditions.condition_of.Given as goal

-- what is read of the rest, which is text, comes behind what was read so far; and where it is no condition there is
-- none
abbrev pub invariant-clauses : goal.invariant-clauses
invariant-clauses l = shadow (Utf8 l.rest)
    × GoesOn l.scope.file.now (is_among l.scope.constants.now.names.items) l.text l.clauses.items l.rest
    × GoesWrong l.scope.file.now l.text l.rest

abbrev pub decreases-clauses : goal.decreases-clauses
decreases-clauses l = length l.rest
