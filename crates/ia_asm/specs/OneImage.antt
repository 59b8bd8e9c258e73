-- What a source gives is one image, whichever numbers its symbols have.
use Rattle.std.specs.Prelude.{◌≡◌, ℕ, Ok, Err, List}
use Rattle.ia_asm.specs.declared.assembly.ProgramImage.{ProgramImage}
use Rattle.ia_asm.specs.declared.assembly.CodeImage.{CodeImage}
use Rattle.ia_asm.specs.declared.fault.AsmFault.{AsmFault}
use Rattle.ia_asm.specs.declared.fault.AsmFault.TheVariants.{NoMemory}
use Rattle.ia_asm.specs.Assembles.{AssemblesCode, AssemblesImage}

-- these are its bytes and its address, and so many of them are code
abbrev pub IsOf : ProgramImage → List ℕ → ℕ → ℕ → Type 0
IsOf p image base code_len = (base ≡ p.base) × (image ≡ p.image.items) × (code_len ≡ p.code_len)

-- any two answers for a source that are images have the same bytes at the same address, as many of them code
abbrev pub OneImage : Type 0
OneImage = (text : List ℕ) (a b : ProgramImage) → AssemblesImage text (Ok a) → AssemblesImage text (Ok b)
    → IsOf b a.image.items a.base a.code_len

-- so has an answer without the symbols
abbrev pub CodeIsImage : Type 0
CodeIsImage = (text : List ℕ) (a : CodeImage) (b : ProgramImage) → AssemblesCode text (Ok a)
    → AssemblesImage text (Ok b) → IsOf b a.image.items a.base a.code_len

-- a source that an image is an answer for is refused for want of memory alone
abbrev pub NoOtherAnswer : Type 0
NoOtherAnswer = (text : List ℕ) (a : ProgramImage) (f : AsmFault) → AssemblesImage text (Ok a)
    → AssemblesImage text (Err f) → f ≡ NoMemory

abbrev pub SourceGivesOneImage : Type 0
SourceGivesOneImage = OneImage × CodeIsImage × NoOtherAnswer
