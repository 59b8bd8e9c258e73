use Rattle.std.proofs.Common.{◌≤◌, ◌+◌, ◌*◌, length}
use Rattle.gdb_target.proofs.threads.push_threads.Given as goal

abbrev pub invariant-cores : goal.invariant-cores
invariant-cores l = length l.row.items ≤ 1 + 3 * l.core
