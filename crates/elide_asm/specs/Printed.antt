-- What `elide asm` and `elide dis` print (docs/FORMATS.md, "Options of the command line").
use Rattle.std.specs.Io.KnownBytes.{Appends}
use Rattle.std.specs.Prelude.{◌≡◌, ◌≤◌, ◌⊎◌, ℕ, Bool, true, false, List, length, take, Option, Ok}
use Rattle.ia_asm.specs.Assembles.{AssemblesCode, GivesListing, RefusedAs}
use Rattle.ia_asm.specs.declared.assembly.CodeImage.{CodeImage}
use Rattle.ia_asm.specs.declared.fault.AsmFault.{AsmFault}
use Rattle.ia_image.specs.ImageText.{image_text}
use Rattle.ia_text.specs.Listing.{listing}
use Rattle.text_out.specs.Writing.{Device, Stopped, Wrote}
use Rattle.text_out.specs.declared.out.WriteFault.{WriteFault}
use Rattle.elide_program.specs.Faults.{unread_source}
use Rattle.elide_program.specs.Files.{Gives, Tells, most_bytes}
use Rattle.elide_program.specs.ProgramFile.{IsFile, file_base, file_bytes, file_code_len}
use Rattle.elide_program.specs.declared.fault.ProgramFault.TheVariants as fault
use Rattle.elide_program.specs.declared.fault.ProgramRefusal.{ProgramRefusal}
use Rattle.elide_program.specs.declared.fault.ProgramRefusal.TheVariants as refusal
use Rattle.elide_program.specs.declared.file.ProgramFile.{ProgramFile}
use Rattle.elide_asm.specs.Labelled.{IsListed}
use Rattle.symbols.specs.declared.marks.Mark.{Mark}

-- ---- asm

-- the image text of what a source assembles to
abbrev pub IsImageText : List ℕ → List ℕ → Type 0
IsImageText source text = (code : CodeImage) × AssemblesCode source (Ok code)
    × (text ≡ image_text code.image.items code.base code.code_len)

-- its listing, where that is asked for, or its image text
abbrev pub IsAssembly : Bool → List ℕ → List ℕ → Type 0
IsAssembly true = GivesListing
IsAssembly false = IsImageText

-- some such text of a source was written
abbrev pub Prints : (List ℕ → Type 0) → Device → Device → Type 0
Prints printed before after = (text : List ℕ) × printed text × Wrote before after text

-- the source is refused and nothing was written, or a beginning of such a text was, and then the device failed
abbrev pub RefusesSource : List ℕ → (List ℕ → Type 0) → Device → Device → ProgramRefusal → Type 0
RefusesSource source printed before after why =
    ((f : AsmFault) × (why ≡ refusal.Fault (fault.Assemble f)) × RefusedAs source f × (after ≡ before))
    ⊎ ((f : WriteFault) × (why ≡ refusal.Fault (fault.Write f))
    × (text : List ℕ) × printed text × Stopped before after text)

-- FILE holds a source, and its image text or its listing was written
abbrev pub PrintsAssembly : Option (List ℕ) → Bool → Device → Device → Type 0
PrintsAssembly content lists before after = (source : List ℕ) × Gives content most_bytes source
    × Prints (IsAssembly lists source) before after

-- FILE is not read and nothing was written, or what it holds is refused
abbrev pub RefusesAssembly : Option (List ℕ) → Bool → Device → Device → ProgramRefusal → Type 0
RefusesAssembly content lists before after why =
    (Tells unread_source content why × (after ≡ before))
    ⊎ ((source : List ℕ) × Gives content most_bytes source
    × RefusesSource source (IsAssembly lists source) before after why)

-- ---- dis

-- the listing of the code of a program's file, whose image is as long as the file says that its code is, or longer
abbrev pub IsCodeListing : ProgramFile → List ℕ → Type 0
IsCodeListing file text = (file_code_len file ≤ length (file_bytes file))
    × (text ≡ listing (take (file_code_len file) (file_bytes file)) (file_base file))

-- FILE is read as a program, and the listing of its code was written
abbrev pub PrintsListing : Option (List ℕ) → Device → Device → Type 0
PrintsListing content before after = (source : List ℕ) × Gives content most_bytes source
    × (file : ProgramFile) × IsFile source file × Prints (IsCodeListing file) before after

-- the same with some labels; where these stand and what they are called is no part of it
abbrev pub IsLabelledListing : ProgramFile → List ℕ → Type 0
IsLabelledListing file text = (file_code_len file ≤ length (file_bytes file)) × (marks : List Mark)
    × IsListed marks (take (file_code_len file) (file_bytes file)) (file_base file) (file_code_len file) text

-- such a listing was written
abbrev pub AppendsLabelled : ProgramFile → Option (List ℕ) → Option (List ℕ) → Type 0
AppendsLabelled file before after = (text : List ℕ) × IsLabelledListing file text × Appends before after text

-- FILE is read as a program, and the listing of its code with labels was written
abbrev pub PrintsLabelled : Option (List ℕ) → Option (List ℕ) → Option (List ℕ) → Type 0
PrintsLabelled content before after = (source : List ℕ) × Gives content most_bytes source
    × (file : ProgramFile) × IsFile source file × AppendsLabelled file before after
