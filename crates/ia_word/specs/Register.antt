-- The general registers by number, as a field of an instruction names them (SDM volume 2, "ModR/M and SIB Bytes").
use Rattle.std.specs.Prelude.{ℕ}

abbrev pub EAX : ℕ
EAX = 0

abbrev pub ECX : ℕ
ECX = 1

abbrev pub EDX : ℕ
EDX = 2

abbrev pub EBX : ℕ
EBX = 3

abbrev pub ESP : ℕ
ESP = 4

abbrev pub EBP : ℕ
EBP = 5

abbrev pub ESI : ℕ
ESI = 6

abbrev pub EDI : ℕ
EDI = 7

-- among the registers of a byte
abbrev pub CL : ℕ
CL = 1
