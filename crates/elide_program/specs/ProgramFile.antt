-- What a program's file says: image text, an executable in ELF, or a source.
use Rattle.std.specs.Prelude.{◌≡◌, ◌≢◌, ◌+◌, ◌<◌, ℕ, Bool, true, false, List, length, Option, Some, None, Ok, codes}
use Rattle.std.specs.Prelude.{nat_eq}
use Rattle.std.specs.List.{starts_with}
use Rattle.ia_asm.specs.Assembles.{AssemblesImage}
use Rattle.ia_asm.specs.Assemblies.{known_as}
use Rattle.ia_elf.specs.Faults.{IsFirstFault}
use Rattle.ia_elf.specs.Fields.{IsMagic}
use Rattle.ia_elf.specs.Loaded.{IsElf}
use Rattle.ia_elf.specs.Symbols.{IsFirstValue}
use Rattle.ia_elf.specs.declared.fault.ElfFault.{ElfFault}
use Rattle.ia_image.specs.ImageText.{image_read}
use Rattle.ia_image.specs.Load.{load_refusal}
use Rattle.ia_image.specs.Program.{ProgramValue}
use Rattle.ia_image.specs.declared.fault.LoadFault.{LoadFault}
use Rattle.ia_image.specs.declared.fault.LoadFault.TheVariants as load
use Rattle.elide_program.specs.Files.{Gives, most_bytes}
use Rattle.elide_program.specs.declared.fault.ProgramFault.TheVariants as fault
use Rattle.elide_program.specs.declared.fault.ProgramRefusal.{ProgramRefusal}
use Rattle.elide_program.specs.declared.fault.ProgramRefusal.TheVariants as refusal
use Rattle.elide_program.specs.declared.file.ProgramFile.{ProgramFile}
use Rattle.elide_program.specs.declared.file.ProgramFile.TheVariants.{Image, Elf, Source}
use Rattle.elide_program.specs.declared.form.Form.{Form}
use Rattle.elide_program.specs.declared.form.Form.TheVariants as form

-- the text begins as image text does
abbrev pub is_image : List ℕ → Bool
is_image text = starts_with nat_eq text (codes "image 1 ")

-- a text that begins neither so nor as an ELF file does is a source
abbrev pub IsSource : List ℕ → Type 0
IsSource text = (is_image text ≡ false) × ¬ IsMagic text

-- a text is written so
abbrev pub IsForm : List ℕ → Form → Type 0
IsForm text form.Image = (is_image text ≡ true) × ¬ IsMagic text
IsForm text form.Executable = IsMagic text
IsForm text form.Source = IsSource text

-- the text is read as this program
abbrev pub IsFile : List ℕ → ProgramFile → Type 0
IsFile text (Image image) =
    (is_image text ≡ true)
    × (image_read text ≡ Ok (record { bytes = image.bytes.items; base = image.base; code_len = image.code_len }))
IsFile text (Elf elf) = IsMagic text × IsElf text elf
IsFile text (Source program) = IsSource text × AssemblesImage text (Ok program)

-- the program that this content is read as, of at most 640 MiB; of a content that is not known it is some text's
pub record IsRead (content : Option (List ℕ)) (file : ProgramFile) : Type 0 where
  pub text : List ℕ
  pub given : Gives content most_bytes text
  pub read : IsFile text file

-- the refusal tells the first fault that an ELF file has
abbrev pub TellsElf : List ℕ → ProgramRefusal → Type 0
TellsElf text why = (f : ElfFault) × (why ≡ refusal.Fault (fault.Elf f)) × IsFirstFault text f

abbrev pub file_form : ProgramFile → Form
file_form (Image image) = form.Image
file_form (Elf elf) = form.Executable
file_form (Source program) = form.Source

abbrev pub file_bytes : ProgramFile → List ℕ
file_bytes (Image image) = image.bytes.items
file_bytes (Elf elf) = elf.bytes
file_bytes (Source program) = program.image.items

abbrev pub file_base : ProgramFile → ℕ
file_base (Image image) = image.base
file_base (Elf elf) = elf.base
file_base (Source program) = program.base

abbrev pub file_code_len : ProgramFile → ℕ
file_code_len (Image image) = image.code_len
file_code_len (Elf elf) = elf.code_len
file_code_len (Source program) = program.code_len

-- where each core starts that is told nothing else: an executable at its entry, others at the base
abbrev pub file_start : ProgramFile → ℕ
file_start (Image image) = image.base
file_start (Elf elf) = elf.entry
file_start (Source program) = program.base

-- the first address above it: of an executable above the zeros that it wants behind its bytes
abbrev pub file_end : ProgramFile → ℕ
file_end (Image image) = image.base + length image.bytes.items
file_end (Elf elf) = elf.end
file_end (Source program) = program.base + length program.image.items

-- the address of a symbol of this name; image text has none
abbrev pub IsFileSymbol : ProgramFile → List ℕ → Option ℕ → Type 0
IsFileSymbol (Image image) name address = address ≡ None
IsFileSymbol (Elf elf) name address = IsFirstValue elf.symbols elf.strings name address
IsFileSymbol (Source program) name address = address ≡ known_as name program.symbols.entries

-- the program of a file in a memory of so many bytes, with a core for each start
abbrev pub loaded : ProgramFile → ℕ → List ℕ → ProgramValue
loaded file memory starts = record {
  bytes = file_bytes file;
  base = file_base file;
  code_len = file_code_len file;
  mem_size = memory;
  entries = starts;
}

-- the first test of the loader that a file fails
abbrev pub file_refusal : ProgramFile → ℕ → List ℕ → Option LoadFault
file_refusal file memory starts = load_refusal (file_bytes file) (file_base file) (file_code_len file) memory starts

-- why a file that passes them is not loaded: it ends above the memory, or there is no memory for it
abbrev pub IsUnheld : ProgramFile → ℕ → LoadFault → Type 0
IsUnheld file memory why = (why ≡ load.TooLarge → memory < file_end file) × (why ≢ load.TooLarge → why ≡ load.NoMemory)

-- the fault of a file that is not loaded
abbrev pub IsLoadFault : ProgramFile → ℕ → Option LoadFault → LoadFault → Type 0
IsLoadFault file memory (Some f) why = why ≡ f
IsLoadFault file memory None why = IsUnheld file memory why

-- the refusal tells it
abbrev pub TellsLoad : ProgramFile → ℕ → List ℕ → ProgramRefusal → Type 0
TellsLoad file memory starts why = (f : LoadFault) × (why ≡ refusal.Fault (fault.Load f))
    × IsLoadFault file memory (file_refusal file memory starts) f
