use Rattle.std.proofs.Common.{length, ◌≤◌}
use Rattle.ia_lines.proofs.files.entry.Given as goal

abbrev pub invariant-parts : goal.invariant-parts
invariant-parts l = length l.rest ≤ length l.bytes
