-- The memory that the segments of a file state (gABI, chapter 5, "Program Header": p_offset, p_vaddr, p_filesz and
-- p_memsz).
use Rattle.std.specs.Prelude.{◌≡◌, ℕ, ◌+◌, ◌-◌, ◌<◌, ◌≤◌, List, length, slice_index}
use Rattle.ia_elf.specs.Fields.{e_phnum, e_entry, segment}
use Rattle.ia_elf.specs.Segments.{EachSegment, Loads, HasBytes, HasCode, bytes_end, memory_end}
use Rattle.ia_elf.specs.Tables.{AreTables}
use Rattle.ia_elf.specs.declared.segment.Segment.{Segment}

-- the address lies in the bytes that a segment has in the file
abbrev pub Covers : ℕ → Segment → Type 0
Covers address s = HasBytes s × (s.p_vaddr ≤ address) × (address < bytes_end s)

-- the address of the first byte that is loaded
pub record IsBase (file : List ℕ) (base : ℕ) : Type 0 where
  pub least : EachSegment file (λ s. HasBytes s → base ≤ s.p_vaddr)
  pub some : (k : ℕ) × (k < e_phnum file) × HasBytes (segment file k) × ((segment file k).p_vaddr ≡ base)

-- the address behind the last byte of code
pub record IsCodeEnd (file : List ℕ) (end : ℕ) : Type 0 where
  pub most : EachSegment file (λ s. HasCode s → bytes_end s ≤ end)
  pub some : (k : ℕ) × (k < e_phnum file) × HasCode (segment file k) × (bytes_end (segment file k) ≡ end)

-- the first address above all segments with their zero fill
pub record IsMemoryEnd (file : List ℕ) (end : ℕ) : Type 0 where
  pub most : EachSegment file (λ s. Loads s → memory_end s ≤ end)
  pub some : (k : ℕ) × (k < e_phnum file) × Loads (segment file k) × (memory_end (segment file k) ≡ end)

-- a segment's bytes of the file stand at its address, in memory that begins at this base
pub record IsPlaced (file bytes : List ℕ) (base : ℕ) (s : Segment) : Type 0 where
  pub above : base ≤ s.p_vaddr
  pub within : bytes_end s ≤ base + length bytes
  pub same : (i : ℕ) → i < s.p_filesz →
      slice_index bytes (s.p_vaddr - base + i) ≡ slice_index file (s.p_offset + i)

-- the bytes from the base on are those that the segments state, up to the last, and zeros between them
pub record IsLoaded (file bytes : List ℕ) (base : ℕ) : Type 0 where
  pub placed : EachSegment file (λ s. HasBytes s → IsPlaced file bytes base s)
  pub zeros : (i : ℕ) → i < length bytes → EachSegment file (λ s. ¬ Covers (base + i) s) → slice_index bytes i ≡ 0
  pub last : (k : ℕ) × (k < e_phnum file) × HasBytes (segment file k)
      × (bytes_end (segment file k) ≡ base + length bytes)

-- an executable as its contracts see it: the bytes, the address of the first, how many of them are code, where it
-- starts, the first address above all segments, and the bytes of the symbol table and of its strings
pub record ElfValue : Type 0 where
  pub bytes : List ℕ
  pub base : ℕ
  pub code_len : ℕ
  pub entry : ℕ
  pub end : ℕ
  pub symbols : List ℕ
  pub strings : List ℕ

-- it is what the file states
pub record IsElf (file : List ℕ) (elf : ElfValue) : Type 0 where
  pub loaded : IsLoaded file elf.bytes elf.base
  pub base : IsBase file elf.base
  pub code : IsCodeEnd file (elf.base + elf.code_len)
  pub entry : elf.entry ≡ e_entry file
  pub end : IsMemoryEnd file elf.end
  pub tables : AreTables file elf.symbols elf.strings
