-- The sections of a file by their names (gABI, chapter 4, "Sections": sh_name is a place in the section e_shstrndx).
use Rattle.std.specs.Prelude.{◌≡◌, ℕ, ◌<◌, ◌≤◌, List, length, Option, Some, None}
use Rattle.ia_elf.specs.Fields.{e_shnum, e_shstrndx, section}
use Rattle.ia_elf.specs.Symbols.{name_at}
use Rattle.ia_elf.specs.Tables.{AreHeadersWhole, IsSectionWhole, bytes_of}

-- the sections of a file have names: its headers and the section of names lie in it
pub record HasNames (file : List ℕ) : Type 0 where
  pub header : 52 ≤ length file
  pub headers : AreHeadersWhole file
  pub link : e_shstrndx file < e_shnum file
  pub whole : IsSectionWhole file (section file (e_shstrndx file))

-- the bytes that the names stand in
abbrev pub section_names : List ℕ → List ℕ
section_names file = bytes_of file (section file (e_shstrndx file))

-- the section of this number has this name, and lies in the file
pub record IsSectionNamed (file name : List ℕ) (k : ℕ) : Type 0 where
  pub within : k < e_shnum file
  pub named : name_at (section_names file) (section file k).sh_name ≡ name
  pub whole : IsSectionWhole file (section file k)

-- these are the bytes of the first such section
pub record IsNamedSection (file name bytes : List ℕ) (k : ℕ) : Type 0 where
  pub named : IsSectionNamed file name k
  pub told : bytes ≡ bytes_of file (section file k)
  pub first : (j : ℕ) → j < k → ¬ IsSectionNamed file name j
