use Rattle.std.proofs.Common.{length, ◌+◌, ◌≤◌}
use Rattle.ia_lines.proofs.files.push_files_4.Given as goal

abbrev pub invariant-files : goal.invariant-files
invariant-files l = length l.names.items + length l.rest ≤ length l.initial.names.items + length l.bytes

abbrev pub decreases-files : goal.decreases-files
decreases-files l = length l.rest
