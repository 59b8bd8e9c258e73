-- The numbers of the faults of decoding.
use Rattle.std.specs.Prelude.{ℕ}
use Rattle.ia_insn.specs.declared.fault.DecodeFault.{DecodeFault}
use Rattle.ia_insn.specs.declared.fault.DecodeFault.TheVariants.{Short, NotInSubset, LockNotAllowed}

abbrev pub fault_code : DecodeFault → ℕ
fault_code Short = 1
fault_code NotInSubset = 2
fault_code LockNotAllowed = 3
