-- The faults that assembling tells, and their numbers.
use Rattle.std.specs.Prelude.{ℕ, ◌==◌, if◌then◌else◌, Option, Some, None, option_map, List}
use Rattle.ia_item.specs.Expressions.{Env}
use Rattle.ia_resolve.specs.PlaceFaults.{first_of}
use Rattle.ia_layout.specs.Placement.{EntryPlace, fault_on, first_fault}
use Rattle.ia_source.specs.declared.fault.SourceFault.{SourceFault}
use Rattle.ia_source.specs.declared.fault.SourceFault.TheVariants as source
use Rattle.ia_source.specs.declared.fault.Why.{Why}
use Rattle.ia_source.specs.declared.fault.Why.TheVariants as why
use Rattle.ia_asm.specs.declared.fault.AsmFault.{AsmFault}
use Rattle.ia_asm.specs.declared.fault.AsmFault.TheVariants as asm
use Rattle.ia_resolve.specs.declared.place_fault.PlaceFault.{PlaceFault}
use Rattle.ia_resolve.specs.declared.place_fault.PlaceFault.TheVariants.{UnknownSymbol, Range, ShortJumpTooFar}

abbrev pub fault_number : AsmFault → ℕ
fault_number (asm.BadToken l) = 10
fault_number (asm.BadOperand l) = 11
fault_number (asm.UnknownSymbol l) = 12
fault_number (asm.SymbolTwice l) = 13
fault_number (asm.Range l) = 14
fault_number (asm.NotInSubset l) = 15
fault_number (asm.ShortJumpTooFar l) = 16
fault_number asm.NoMemory = 17

abbrev pub fault_line : AsmFault → Option ℕ
fault_line (asm.BadToken l) = Some l
fault_line (asm.BadOperand l) = Some l
fault_line (asm.UnknownSymbol l) = Some l
fault_line (asm.SymbolTwice l) = Some l
fault_line (asm.Range l) = Some l
fault_line (asm.NotInSubset l) = Some l
fault_line (asm.ShortJumpTooFar l) = Some l
fault_line asm.NoMemory = None

-- what is wrong with a line, as it is told
abbrev pub line_fault : ℕ → Why → AsmFault
line_fault line why.BadToken = asm.BadToken line
line_fault line why.NotInSubset = asm.NotInSubset line
line_fault line why.SymbolTwice = asm.SymbolTwice line
line_fault line why.BadOperand = asm.BadOperand line

abbrev pub asm_fault : SourceFault → AsmFault
asm_fault (source.Line line why) = line_fault line why
asm_fault source.NoMemory = asm.NoMemory

abbrev pub at_line : PlaceFault → ℕ → AsmFault
at_line UnknownSymbol l = asm.UnknownSymbol l
at_line Range l = asm.Range l
at_line ShortJumpTooFar l = asm.ShortJumpTooFar l

-- the fault found so far and its line, after one more fault of a line
abbrev pub with_next : Option (PlaceFault × ℕ) → Option PlaceFault → ℕ → Option (PlaceFault × ℕ)
with_next None None line = None
with_next None (Some f) line = Some (f, line)
with_next (Some (f, at)) g line = if line == at then option_map (λ h. (h, at)) (first_of (Some f) g) else Some (f, at)

-- what is told, of what is found so far and of the places behind
abbrev pub fault_from : Env → ℕ → Option (PlaceFault × ℕ) → List EntryPlace → Option (PlaceFault × ℕ)
fault_from env base None ps = first_fault env base ps
fault_from env base (Some (f, l)) ps = option_map (λ g. (g, l)) (first_of (Some f) (fault_on l env base ps))
