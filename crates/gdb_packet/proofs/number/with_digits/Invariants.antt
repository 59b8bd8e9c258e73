use Rattle.std.proofs.Common.{◌≡◌, drop}
use Rattle.gdb_packet.specs.Numbers.{with_digits}
use Rattle.gdb_packet.proofs.number.with_digits.Given as goal

-- the number so far, with the digits of the rest
abbrev pub invariant-digits : goal.invariant-digits
invariant-digits l = with_digits l.number (drop l.index l.text) ≡ with_digits 0 l.text
