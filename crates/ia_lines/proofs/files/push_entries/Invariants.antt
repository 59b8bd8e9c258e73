use Rattle.std.proofs.Common.{length, ◌+◌, ◌≤◌}
use Rattle.ia_lines.proofs.files.push_entries.Given as goal

abbrev pub invariant-entries : goal.invariant-entries
invariant-entries l = length l.names.items + length l.rest ≤ length l.initial.names.items + length l.bytes
