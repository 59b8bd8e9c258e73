use Rattle.std.proofs.Common.{◌≤◌, ◌+◌, ◌*◌, length}
use Rattle.gdb_target.proofs.threads.push_thread_list.Given as goal

abbrev pub invariant-cores : goal.invariant-cores
invariant-cores l = length l.row.items ≤ 100 + 100 * l.core
