-- What a file has to be, so that its segments are the memory of a program with its code in front (gABI, chapter 5).
use Rattle.std.specs.Prelude.{◌≡◌, ◌≢◌, ℕ, ◌+◌, ◌*◌, ◌%◌, ◌<◌, ◌≤◌, List, length, slice_index}
use Rattle.ia_elf.specs.Fields.{IsMagic, e_type, e_machine, e_version, e_phoff, e_phentsize, e_phnum, segment}
use Rattle.ia_elf.specs.declared.segment.Segment.{Segment}

-- each program header is like this
abbrev pub EachSegment : List ℕ → (Segment → Type 0) → Type 0
EachSegment file P = (k : ℕ) → k < e_phnum file → P (segment file k)

-- a segment of type PT_LOAD; one without any bytes loads nothing
abbrev pub Loads : Segment → Type 0
Loads s = (s.p_type ≡ 1) × (0 < s.p_memsz)

-- it has bytes in the file, those that PF_X says are executable, and others
abbrev pub HasBytes : Segment → Type 0
HasBytes s = Loads s × (0 < s.p_filesz)

abbrev pub HasCode : Segment → Type 0
HasCode s = HasBytes s × (s.p_flags % 2 ≡ 1)

abbrev pub HasOther : Segment → Type 0
HasOther s = HasBytes s × (s.p_flags % 2 ≢ 1)

-- where its bytes of the file end, and where its memory does: p_vaddr is its address
abbrev pub bytes_end : Segment → ℕ
bytes_end s = s.p_vaddr + s.p_filesz

abbrev pub memory_end : Segment → ℕ
memory_end s = s.p_vaddr + s.p_memsz

-- ELFCLASS32, ELFDATA2LSB and EM_386
pub record IsForThisMachine (file : List ℕ) : Type 0 where
  pub magic : IsMagic file
  pub named : 20 ≤ length file
  pub class : slice_index file 4 ≡ 1
  pub encoding : slice_index file 5 ≡ 1
  pub machine : e_machine file ≡ 3

-- the file header, version EV_CURRENT, and the table of program headers lie in the file
pub record IsHeaderWhole (file : List ℕ) : Type 0 where
  pub header : 52 ≤ length file
  pub ident : slice_index file 6 ≡ 1
  pub version : e_version file ≡ 1
  pub entries : 0 < e_phnum file → e_phentsize file ≡ 32
  pub table : e_phoff file + 32 * e_phnum file ≤ length file

-- the bytes of a segment that is loaded lie in the file, and are no more than its memory
abbrev pub IsSegmentWhole : List ℕ → Segment → Type 0
IsSegmentWhole file s = Loads s → (s.p_filesz ≤ s.p_memsz) × (s.p_offset + s.p_filesz ≤ length file)

-- ET_EXEC, with no PT_DYNAMIC and no PT_INTERP
pub record IsExecutable (file : List ℕ) : Type 0 where
  pub type : e_type file ≡ 2
  pub static : EachSegment file (λ s. (s.p_type ≢ 2) × (s.p_type ≢ 3))

-- some code is loaded
abbrev pub SomeCode : List ℕ → Type 0
SomeCode file = (k : ℕ) × (k < e_phnum file) × HasCode (segment file k)

-- all of it lies below the end of the largest memory
abbrev pub IsLow : Segment → Type 0
IsLow s = Loads s → memory_end s ≤ 268435456

-- segments stand in ascending order and don't overlap (chapter 5: "PT_LOAD entries .. appear in ascending order")
abbrev pub InOrder : List ℕ → Type 0
InOrder file = (j k : ℕ) → j < k → k < e_phnum file → Loads (segment file j) → Loads (segment file k) →
    memory_end (segment file j) ≤ (segment file k).p_vaddr

-- no bytes that aren't executable lie below the end of some that are
abbrev pub CodeInFront : List ℕ → Type 0
CodeInFront file = (j k : ℕ) → j < e_phnum file → k < e_phnum file →
    HasCode (segment file j) → HasOther (segment file k) → bytes_end (segment file j) ≤ (segment file k).p_vaddr
