use Rattle.std.proofs.Common.{arith}
use Rattle.gdb_packet.specs.Numbers.{with_digits}
use Rattle.gdb_packet.proofs.Digits.{ends}
use Rattle.gdb_packet.proofs.number.with_digits.Goals as goal

pub returns : goal.returns
returns c =
    ends c.digits.number c.digits.index c.args.text.now (with_digits 0 c.args.text.now) (omega arith) c.digits.invariant
