use Rattle.std.proofs.Common.{length, ◌≤◌}
use Rattle.ia_lines.proofs.files.behind_table.Given as goal

abbrev pub invariant-entries : goal.invariant-entries
invariant-entries l = length l.rest ≤ length l.bytes
