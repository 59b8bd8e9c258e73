-- The numbers and lines of a program's faults (docs/FORMATS.md).
use Rattle.std.specs.Prelude.{ℕ, Option, None}
use Rattle.ia_asm.specs.Faults as asm
use Rattle.ia_asm.specs.declared.fault.AsmFault.TheVariants as no_source
use Rattle.ia_elf.specs.Faults as elf
use Rattle.ia_image.specs.ImageText.{image_fault_line, image_fault_number}
use Rattle.ia_image.specs.Load as load
use Rattle.ia_image.specs.declared.fault.LoadFault.TheVariants as want
use Rattle.elide_program.specs.declared.fault.ProgramFault.{ProgramFault}
use Rattle.elide_program.specs.declared.fault.ProgramFault.TheVariants.{Write, Assemble, Image, Elf, Load, Input}
use Rattle.elide_program.specs.declared.fault.ProgramFault.TheVariants.{TooLong}
use Rattle.elide_program.specs.declared.paths.ReadFault.{ReadFault}
use Rattle.elide_program.specs.declared.paths.ReadFault.TheVariants as read

abbrev pub program_number : ProgramFault → ℕ
program_number (Write fault) = 5
program_number (Assemble fault) = asm.fault_number fault
program_number (Image fault) = image_fault_number fault
program_number (Elf fault) = elf.fault_number fault
program_number (Load fault) = load.fault_number fault
program_number Input = 80
program_number TooLong = 82

abbrev pub program_line : ProgramFault → Option ℕ
program_line (Write fault) = None
program_line (Assemble fault) = asm.fault_line fault
program_line (Image fault) = image_fault_line fault
program_line (Elf fault) = None
program_line (Load fault) = None
program_line Input = None
program_line TooLong = None

-- why a program's file is not read, and why a source's, of which want of memory is the assembler's fault
abbrev pub unread : ReadFault → ProgramFault
unread (read.Failed obstacle) = Input
unread read.TooLong = TooLong
unread read.NoMemory = Load want.NoMemory

abbrev pub unread_source : ReadFault → ProgramFault
unread_source (read.Failed obstacle) = Input
unread_source read.TooLong = TooLong
unread_source read.NoMemory = Assemble no_source.NoMemory
