use Rattle.std.proofs.Common.{◌≡◌, ◌+◌, ◌*◌, ◌++◌, length}
use Rattle.gdb_target.specs.Memory.{bytes_text}
use Rattle.gdb_target.proofs.memory.push_seen.Given as goal

-- the bytes before this one were added
abbrev pub invariant-bytes : goal.invariant-bytes
invariant-bytes l = record {
  text : l.row.items ≡ l.initial.row.items ++ bytes_text l.machine l.core l.at l.index;
  few : length l.row.items ≡ length l.initial.row.items + 2 * l.index;
}
