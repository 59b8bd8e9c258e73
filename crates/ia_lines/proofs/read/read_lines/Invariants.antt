use Rattle.std.proofs.Common.{length, ◌+◌, ◌≤◌}
use Rattle.ia_lines.proofs.read.read_lines.Given as goal

abbrev pub invariant-units : goal.invariant-units
invariant-units l = length l.lines.rows.items + length l.rest ≤ length l.sections.lines.now

abbrev pub decreases-units : goal.decreases-units
decreases-units l = length l.rest
