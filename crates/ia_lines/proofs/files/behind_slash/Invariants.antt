use Rattle.std.proofs.Common.{length, ◌≤◌}
use Rattle.ia_lines.proofs.files.behind_slash.Given as goal

abbrev pub invariant-bytes : goal.invariant-bytes
invariant-bytes l = l.start ≤ length l.path
