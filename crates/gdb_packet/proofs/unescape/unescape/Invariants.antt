use Rattle.std.proofs.Common.{◌≡◌, ◌≤◌, length, drop}
use Rattle.gdb_packet.specs.Packet.{behind, unescaped, unescaped_from}
use Rattle.gdb_packet.proofs.unescape.unescape.Given as goal

-- the text stands for the bytes so far and those of the rest
abbrev pub invariant-text : goal.invariant-text
invariant-text l = record {
  bytes : behind l.bytes.items (unescaped_from l.escapes (drop l.index l.text)) ≡ unescaped l.text;
  few : length l.bytes.items ≤ l.index;
}
