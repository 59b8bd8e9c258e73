-- What is printed of memory, as the options say it (docs/FORMATS.md, "Options of the command line").
use Rattle.std.specs.Prelude.{◌≡◌, ℕ, List, ◌∷◌, ◌++◌, Some}
use Rattle.std.specs.Borrow.{Bor}
use Rattle.std.specs.List.{AllZip}
use Rattle.elide_program.specs.Settings.{word32}
use Rattle.elide_program.specs.Sums.{IsSum}
use Rattle.elide_program.specs.declared.file.ProgramFile.{ProgramFile}
use Rattle.elide_program.specs.declared.parts.Dump.{Dump}
use Rattle.elide_program.specs.declared.parts.MemoryParts.{MemoryParts}

-- the text is a sum, which says the address of the first byte, a colon, and how many bytes there are
pub record IsDump (file : ProgramFile) (text : List ℕ) (dump : Dump) : Type 0 where
  pub at : List ℕ
  pub count : List ℕ
  pub whole : text ≡ at ++ 58 ∷ count
  pub address : IsSum file at (Some dump.address)
  pub length : word32 count ≡ Some dump.length

-- each option has its part, in their order
pub record AreParts (file : ProgramFile) (parts_asked values_asked : List (Bor (List ℕ))) (parts : MemoryParts)
    : Type 0 where
  pub dumps : AllZip (λ text dump. IsDump file text.now dump) parts_asked parts.dumps.items
  pub values : AllZip (λ text address. IsSum file text.now (Some address)) values_asked parts.values.items
