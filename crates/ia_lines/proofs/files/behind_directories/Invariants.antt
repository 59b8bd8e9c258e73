use Rattle.std.proofs.Common.{length, ◌≤◌}
use Rattle.ia_lines.proofs.files.behind_directories.Given as goal

abbrev pub invariant-texts : goal.invariant-texts
invariant-texts l = length l.rest ≤ length l.bytes

abbrev pub decreases-texts : goal.decreases-texts
decreases-texts l = length l.rest
