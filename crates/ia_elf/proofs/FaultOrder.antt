-- The order of the faults.
use Rattle.std.proofs.Common.{ℕ, List, arith}
use Rattle.ia_elf.specs.Faults.{IsFreeBefore, IsWhole}
use Rattle.ia_elf.specs.Segments.{CodeInFront, EachSegment, InOrder, IsExecutable, IsForThisMachine, IsLow, SomeCode}
use Rattle.ia_elf.specs.declared.fault.ElfFault.TheVariants as fault

-- a file that passed all tests but the last, and all
pub before_last : (file : List ℕ) → IsForThisMachine file → IsWhole file → IsExecutable file → SomeCode file
    → EachSegment file IsLow →
    InOrder file → IsFreeBefore file fault.CodeNotInFront
before_last file machine whole executable code low order fault.NotForThisMachine h = machine
before_last file machine whole executable code low order fault.Damaged h = whole
before_last file machine whole executable code low order fault.NotAnExecutable h = executable
before_last file machine whole executable code low order fault.NothingToLoad h = code
before_last file machine whole executable code low order fault.TooHigh h = low
before_last file machine whole executable code low order fault.Overlap h = order
before_last file machine whole executable code low order fault.CodeNotInFront h = absurd (omega arith)
before_last file machine whole executable code low order fault.NoMemory h = absurd (omega arith)

pub before_memory : (file : List ℕ) → IsForThisMachine file → IsWhole file → IsExecutable file → SomeCode file
    → EachSegment file IsLow →
    InOrder file → CodeInFront file → IsFreeBefore file fault.NoMemory
before_memory file machine whole executable code low order front fault.NotForThisMachine h = machine
before_memory file machine whole executable code low order front fault.Damaged h = whole
before_memory file machine whole executable code low order front fault.NotAnExecutable h = executable
before_memory file machine whole executable code low order front fault.NothingToLoad h = code
before_memory file machine whole executable code low order front fault.TooHigh h = low
before_memory file machine whole executable code low order front fault.Overlap h = order
before_memory file machine whole executable code low order front fault.CodeNotInFront h = front
before_memory file machine whole executable code low order front fault.NoMemory h = absurd (omega arith)

-- which fault comes first
pub ruleset fault_order = (before_last, before_memory)
