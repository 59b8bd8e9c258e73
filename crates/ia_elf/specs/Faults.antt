-- Which fault of a file is told.
use Rattle.std.specs.Prelude.{ℕ, ◌<◌, List}
use Rattle.ia_elf.specs.Segments.{CodeInFront, EachSegment, InOrder, IsExecutable, IsForThisMachine}
use Rattle.ia_elf.specs.Segments.{IsHeaderWhole, IsLow, IsSegmentWhole, SomeCode}
use Rattle.ia_elf.specs.Tables.{AreTablesWhole}
use Rattle.ia_elf.specs.declared.fault.ElfFault.{ElfFault}
use Rattle.ia_elf.specs.declared.fault.ElfFault.TheVariants as fault

-- the numbers of the faults, in the order in which they are told
abbrev pub fault_number : ElfFault → ℕ
fault_number fault.NotForThisMachine = 90
fault_number fault.Damaged = 91
fault_number fault.NotAnExecutable = 92
fault_number fault.NothingToLoad = 93
fault_number fault.TooHigh = 94
fault_number fault.Overlap = 95
fault_number fault.CodeNotInFront = 96
fault_number fault.NoMemory = 97

-- all that is read lies in the file
pub record IsWhole (file : List ℕ) : Type 0 where
  pub header : IsHeaderWhole file
  pub segments : EachSegment file (IsSegmentWhole file)
  pub tables : AreTablesWhole file

-- the file is free of this fault; of memory that is wanting no file is
abbrev pub IsFreeOf : List ℕ → ElfFault → Type 0
IsFreeOf file fault.NotForThisMachine = IsForThisMachine file
IsFreeOf file fault.Damaged = IsWhole file
IsFreeOf file fault.NotAnExecutable = IsExecutable file
IsFreeOf file fault.NothingToLoad = SomeCode file
IsFreeOf file fault.TooHigh = EachSegment file IsLow
IsFreeOf file fault.Overlap = InOrder file
IsFreeOf file fault.CodeNotInFront = CodeInFront file
IsFreeOf file fault.NoMemory = ⊥

-- the file is free of the faults that are told before this one
abbrev pub IsFreeBefore : List ℕ → ElfFault → Type 0
IsFreeBefore file f = (g : ElfFault) → fault_number g < fault_number f → IsFreeOf file g

-- this is the first fault that the file has
abbrev pub IsFirstFault : List ℕ → ElfFault → Type 0
IsFirstFault file f = IsFreeBefore file f × ¬ IsFreeOf file f
