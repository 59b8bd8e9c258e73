use Rattle.std.proofs.Common.{◌≡◌, ◌*◌, length}
use Rattle.tm_gdb.proofs.text.Text.push.Given as goal

abbrev pub invariant-bytes : goal.invariant-bytes
invariant-bytes l = length l.packet.items ≡ 2 * l.index
