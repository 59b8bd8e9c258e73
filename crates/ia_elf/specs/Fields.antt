-- The fields of an ELF32 file, by their names in the System V ABI (gABI, chapters 4 and 5). Numbers stand with their
-- lowest byte first (ELFDATA2LSB, the encoding of the i386 psABI).
use Rattle.std.specs.Prelude.{◌≡◌, ℕ, ◌+◌, ◌*◌, ◌≤◌, List, [], ◌∷◌, length, slice_index}
use Rattle.std.specs.Int.{w16, w32, from_le_bytes}
use Rattle.ia_elf.specs.declared.segment.Segment.{Segment}
use Rattle.ia_elf.specs.declared.tables.Section.{Section}

-- the numbers in two and in four bytes
unfoldable pub half_at : List ℕ → ℕ → ℕ
half_at bytes at = from_le_bytes w16 (slice_index bytes at ∷ slice_index bytes (at + 1) ∷ [])

unfoldable pub word_at : List ℕ → ℕ → ℕ
word_at bytes at = from_le_bytes w32
    (slice_index bytes at ∷ slice_index bytes (at + 1) ∷ slice_index bytes (at + 2) ∷ slice_index bytes (at + 3) ∷ [])

-- the first bytes of every ELF file (e_ident: ELFMAG0 to ELFMAG3)
pub record IsMagic (file : List ℕ) : Type 0 where
  pub whole : 4 ≤ length file
  pub first : slice_index file 0 ≡ 127
  pub second : slice_index file 1 ≡ 69
  pub third : slice_index file 2 ≡ 76
  pub fourth : slice_index file 3 ≡ 70

-- the file header (chapter 4, "ELF Header")
abbrev pub e_type : List ℕ → ℕ
e_type file = half_at file 16

abbrev pub e_machine : List ℕ → ℕ
e_machine file = half_at file 18

abbrev pub e_version : List ℕ → ℕ
e_version file = word_at file 20

abbrev pub e_entry : List ℕ → ℕ
e_entry file = word_at file 24

abbrev pub e_phoff : List ℕ → ℕ
e_phoff file = word_at file 28

abbrev pub e_shoff : List ℕ → ℕ
e_shoff file = word_at file 32

abbrev pub e_phentsize : List ℕ → ℕ
e_phentsize file = half_at file 42

abbrev pub e_phnum : List ℕ → ℕ
e_phnum file = half_at file 44

abbrev pub e_shentsize : List ℕ → ℕ
e_shentsize file = half_at file 46

abbrev pub e_shnum : List ℕ → ℕ
e_shnum file = half_at file 48

abbrev pub e_shstrndx : List ℕ → ℕ
e_shstrndx file = half_at file 50

-- the program header of this number, counted from 0 (chapter 5, "Program Header"); p_paddr, the word at 12, and
-- p_align are not read
unfoldable pub segment : List ℕ → ℕ → Segment
segment file k = let at = e_phoff file + 32 * k in record {
  p_type = word_at file at;
  p_offset = word_at file (at + 4);
  p_vaddr = word_at file (at + 8);
  p_filesz = word_at file (at + 16);
  p_memsz = word_at file (at + 20);
  p_flags = word_at file (at + 24);
}

-- the section header of this number, counted from 0 (chapter 4, "Sections")
unfoldable pub section : List ℕ → ℕ → Section
section file k = let at = e_shoff file + 40 * k in record {
  sh_name = word_at file at;
  sh_type = word_at file (at + 4);
  sh_offset = word_at file (at + 16);
  sh_size = word_at file (at + 20);
  sh_link = word_at file (at + 24);
  sh_entsize = word_at file (at + 36);
}
