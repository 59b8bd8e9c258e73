-- The symbol table of a file and its names (gABI, chapter 4, "Sections", "String Table" and "Symbol Table").
use Rattle.std.specs.Prelude.{◌≡◌, ◌≢◌, ℕ, ◌+◌, ◌-◌, ◌*◌, ◌/◌, ◌%◌, ◌<◌, ◌≤◌, List, [], length, slice_index}
use Rattle.std.specs.Prelude.{drop, take}
use Rattle.ia_elf.specs.Fields.{word_at, e_shoff, e_shentsize, e_shnum, section}
use Rattle.ia_elf.specs.declared.tables.Section.{Section}

-- the bytes of a section
abbrev pub bytes_of : List ℕ → Section → List ℕ
bytes_of file s = take s.sh_size (drop s.sh_offset file)

-- the section of this number is the symbol table: the first of type SHT_SYMTAB
pub record IsSymbolTable (file : List ℕ) (s : ℕ) : Type 0 where
  pub within : s < e_shnum file
  pub type : (section file s).sh_type ≡ 2
  pub first : (j : ℕ) → j < s → (section file j).sh_type ≢ 2

-- the section headers lie in the file, where there are any; a file without has no symbols
pub record AreHeadersWhole (file : List ℕ) : Type 0 where
  pub entries : 0 < e_shnum file → e_shentsize file ≡ 40
  pub table : 0 < e_shnum file → e_shoff file + 40 * e_shnum file ≤ length file

-- the symbols are whole entries of 16 bytes, and each has its name in the strings, which end with NUL
pub record AreNamed (symbols strings : List ℕ) : Type 0 where
  pub entries : length symbols % 16 ≡ 0
  pub not_empty : 0 < length strings
  pub ended : slice_index strings (length strings - 1) ≡ 0
  pub names : (k : ℕ) → k < length symbols / 16 → word_at symbols (16 * k) < length strings

-- a section lies in the file
abbrev pub IsSectionWhole : List ℕ → Section → Type 0
IsSectionWhole file s = s.sh_offset + s.sh_size ≤ length file

-- a symbol table and the string table (SHT_STRTAB) that it links to lie in the file
pub record IsTableWhole (file : List ℕ) (s : Section) : Type 0 where
  pub entry_size : s.sh_entsize ≡ 16
  pub whole : IsSectionWhole file s
  pub link : s.sh_link < e_shnum file
  pub linked_type : (section file s.sh_link).sh_type ≡ 3
  pub linked_whole : IsSectionWhole file (section file s.sh_link)
  pub named : AreNamed (bytes_of file s) (bytes_of file (section file s.sh_link))

pub record AreTablesWhole (file : List ℕ) : Type 0 where
  pub headers : AreHeadersWhole file
  pub symbols : (s : ℕ) → IsSymbolTable file s → IsTableWhole file (section file s)

-- these are the bytes of the symbol table and of its string table; a file without symbol table has no symbols
pub record AreTables (file symbols strings : List ℕ) : Type 0 where
  pub none : ((s : ℕ) → s < e_shnum file → (section file s).sh_type ≢ 2) →
      (symbols ≡ []) × (strings ≡ [])
  pub table : (s : ℕ) → IsSymbolTable file s → symbols ≡ bytes_of file (section file s)
  pub names : (s : ℕ) → IsSymbolTable file s → strings ≡ bytes_of file (section file (section file s).sh_link)
