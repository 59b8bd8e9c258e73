-- Which faults of a source are told, and where they stand (docs/FORMATS.md, "Source", says which one comes first).
use Rattle.std.specs.Prelude.{◌≡◌, ◌≤◌, ◌+◌, ◌-◌, ◌^◌, ◌⊎◌, ℕ, Option, Some, None, Ok, List, [], ◌∷◌, ◌++◌, length}
use Rattle.std.specs.List.{slice_get}
use Rattle.ia_lex.specs.Lines.{lines_of}
use Rattle.ia_asm.specs.declared.fault.AsmFault.{AsmFault}
use Rattle.ia_asm.specs.declared.fault.AsmFault.TheVariants as asm
use Rattle.ia_asm.specs.declared.assembly.ProgramImage.{ProgramImage}
use Rattle.ia_asm.specs.Faults.{fault_line}
use Rattle.ia_asm.specs.Assembles.{AssemblesImage, RefusedAs}
use Rattle.ia_diagnosis.specs.declared.diagnosis.Diagnosis.{Diagnosis}

-- the line of this number, from 1
abbrev pub line_at : List ℕ → ℕ → Option (List ℕ)
line_at text number = slice_get (lines_of text) (number - 1)

-- the text that stands beside a fault is the line that the fault names, and its place lies within it
pub record IsPlaced (text : List ℕ) (d : Diagnosis) : Type 0 where
  pub line : (n : ℕ) × (fault_line d.fault ≡ Some n) × (line_at text n ≡ Some d.text.now)
  pub column : 1 ≤ d.column
  pub within : d.column - 1 + d.length ≤ length d.text.now

-- the text has no line of the number that the fault names
abbrev pub HasNoLine : List ℕ → AsmFault → Type 0
HasNoLine text f = (n : ℕ) × (fault_line f ≡ Some n) × (line_at text n ≡ None)

-- the text is assembled
abbrev pub HasProgram : List ℕ → Type 0
HasProgram text = (p : ProgramImage) × AssemblesImage text (Ok p)

-- the faults of reading stand before those of placing, each of them by their lines
abbrev pub turn : AsmFault → ℕ
turn (asm.BadToken l) = l
turn (asm.NotInSubset l) = l
turn (asm.SymbolTwice l) = l
turn (asm.BadOperand l) = l
turn (asm.UnknownSymbol l) = 2 ^ 32 + l
turn (asm.Range l) = 2 ^ 32 + l
turn (asm.ShortJumpTooFar l) = 2 ^ 32 + l
turn asm.NoMemory = 0

-- each lies in the text, and their turns rise from the one number and stay below the other
abbrev pub AreRising : List ℕ → ℕ → List Diagnosis → ℕ → Type 0
AreRising text least [] end = least ≤ end
AreRising text least (d ∷ ds) end = (least ≤ turn d.fault) × IsPlaced text d × AreRising text (turn d.fault + 1) ds end

-- the first is the fault that assembling tells; there is none where the text is assembled,
-- or the told line is not there
abbrev pub BeginsWell : List ℕ → List Diagnosis → Type 0
BeginsWell text [] = HasProgram text ⊎ ((f : AsmFault) × RefusedAs text f × HasNoLine text f)
BeginsWell text (d ∷ ds) = RefusedAs text d.fault

pub record AreDiagnoses (text : List ℕ) (ds : List Diagnosis) : Type 0 where
  pub first : BeginsWell text ds
  pub rising : (end : ℕ) × AreRising text 0 ds end
  pub few : length ds ≤ 20

-- ---- what the code asks

-- nothing was added, or one more that lies in the text, whose turn has not passed
abbrev pub Extends : List ℕ → List Diagnosis → ℕ → List Diagnosis → ℕ → Type 0
Extends text before least after next =
    ((after ≡ before) × (next ≡ least))
    ⊎ ((d : Diagnosis) × IsPlaced text d × (least ≤ turn d.fault)
    × (after ≡ before ++ d ∷ []) × (next ≡ turn d.fault + 1))

-- those that were told so far, at least one, where others may follow from this turn on
pub record Course (text : List ℕ) (ds : List Diagnosis) (least : ℕ) : Type 0 where
  pub first : BeginsWell text ds
  pub rising : AreRising text 0 ds least
  pub some : 1 ≤ length ds
  pub few : length ds ≤ 20
