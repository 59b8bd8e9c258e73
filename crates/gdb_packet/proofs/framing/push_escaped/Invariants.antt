use Rattle.std.proofs.Common.{◌≡◌, ◌≤◌, ◌+◌, ◌*◌, ◌++◌, length, take}
use Rattle.gdb_packet.specs.Packet.{escaped}
use Rattle.gdb_packet.proofs.framing.push_escaped.Given as goal

-- the bytes before this index were added
abbrev pub invariant-bytes : goal.invariant-bytes
invariant-bytes l = record {
  text : l.row.items ≡ l.initial.row.items ++ escaped (take l.index l.bytes);
  few : length l.row.items ≤ length l.initial.row.items + 2 * l.index;
}
