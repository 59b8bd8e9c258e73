-- What a source gives, or why it is refused.
use Rattle.std.specs.Prelude.{◌≡◌, ℕ, ◌⊎◌, Some, None, Result, Ok, Err, List, option_map}
use Rattle.ia_item.specs.declared.item.Entry.{Entry}
use Rattle.ia_source.specs.declared.fault.Why.{Why}
use Rattle.ia_source.specs.Source.{AsksFor, entries_of}
use Rattle.ia_asm.specs.declared.fault.AsmFault.{AsmFault}
use Rattle.ia_asm.specs.declared.fault.AsmFault.TheVariants as asm
use Rattle.ia_asm.specs.declared.assembly.Unit.{Unit as Assembly}
use Rattle.ia_asm.specs.declared.assembly.ProgramImage.{ProgramImage}
use Rattle.ia_asm.specs.declared.assembly.CodeImage.{CodeImage}
use Rattle.ia_asm.specs.Faults.{at_line, line_fault}
use Rattle.ia_asm.specs.Assemblies.{IsAssembly, IsImage, IsCode, fault_of, listing_of}

-- the first line that asks for nothing, or else the first that cannot be placed
abbrev pub Refused : List ℕ → AsmFault → Type 0
Refused text f = ((line : ℕ) × (y : Why) × (entries_of text ≡ Err (line, y)) × (f ≡ line_fault line y))
    ⊎ ((es : List Entry) × AsksFor text es × (option_map (λ t. at_line t.0 t.1) (fault_of es) ≡ Some f))

-- memory was refused, or the source would take more than it may, or this is why it is refused
abbrev pub RefusedAs : List ℕ → AsmFault → Type 0
RefusedAs text asm.NoMemory = Unit {0}
RefusedAs text f = Refused text f

-- what the lines ask for is placed and gives this, or this is why not
abbrev pub Answers : {X : Type 0} → (List Entry → X → Type 0) → List ℕ → Result X AsmFault → Type 0
Answers given text (Ok x) = (es : List Entry) × AsksFor text es × given es x
Answers given text (Err f) = RefusedAs text f

-- the image, the symbols and the listing
abbrev pub Assembles : List ℕ → Result Assembly AsmFault → Type 0
Assembles = Answers IsAssembly

-- the same without a listing
abbrev pub AssemblesImage : List ℕ → Result ProgramImage AsmFault → Type 0
AssemblesImage = Answers IsImage

-- the image alone
abbrev pub AssemblesCode : List ℕ → Result CodeImage AsmFault → Type 0
AssemblesCode = Answers IsCode

-- what the lines ask for has no fault, and this listing
abbrev pub GivesListing : List ℕ → List ℕ → Type 0
GivesListing text listing = (es : List Entry) × AsksFor text es × (fault_of es ≡ None) × (listing ≡ listing_of es)
