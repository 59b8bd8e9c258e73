-- What a program is, and the state that a machine starts it in. The limits and the state are choices of this machine,
-- not statements about hardware.
use Rattle.std.specs.Prelude.{◌≡◌, ℕ, ◌+◌, ◌-◌, ◌*◌, ◌%◌, ◌<◌, ◌≤◌, List, [], ◌∷◌, ◌++◌, All, Result, length, min}
use Rattle.std.specs.Prelude.{replicate, slice_index, take}
use Rattle.ia_decode.specs.Offsets.{AreDecoded}
use Rattle.ia_insn.specs.declared.fault.DecodeFault.{DecodeFault}
use Rattle.ia_insn.specs.declared.op.Insn.{Insn}
use Rattle.ia_regs.specs.declared.Regs.{Regs}
use Rattle.ia_flat.specs.FlatCode.{AreFlats, TellAll}
use Rattle.ia_flat.specs.declared.flat.FlatAt.{FlatAt}

-- a program as its contracts see it: the bytes of the image, the address of the first, how many of them are code, the
-- size of memory in bytes, and the address at which each core starts
pub record ProgramValue : Type 0 where
  pub bytes : List ℕ
  pub base : ℕ
  pub code_len : ℕ
  pub mem_size : ℕ
  pub entries : List ℕ

-- the code: the bytes at the front of the image
abbrev pub code_of : ProgramValue → List ℕ
code_of program = take program.code_len program.bytes

-- the address of a byte of the code
abbrev pub IsInCode : ProgramValue → ℕ → Type 0
IsInCode program address = (program.base ≤ address) × (address < program.base + program.code_len)

-- a program that a machine can start: each core has a stack page of 4096 bytes, and one page is left
pub record IsSound (program : ProgramValue) : Type 0 where
  pub not_empty : 0 < length program.bytes
  pub some_core : 0 < length program.entries
  pub few_cores : length program.entries ≤ 64
  pub whole_pages : program.mem_size % 4096 ≡ 0
  pub holds_stacks : 4096 * (length program.entries + 1) ≤ program.mem_size
  pub not_large : program.mem_size ≤ 268435456
  pub fits : program.base + length program.bytes ≤ program.mem_size
  pub code_fits : program.code_len ≤ length program.bytes
  pub entries_in_code : All (IsInCode program) program.entries

-- the offsets of the code from which it is decoded once, when the program is loaded
abbrev pub decoded_once : List ℕ → ℕ
decoded_once code = min (length code) 65536

-- a program, with what decoding gives from each of these offsets, and the same as flat rows
pub record IsProgram (program : ProgramValue) (rows : List (Result (Insn × ℕ) DecodeFault)) (lines : List FlatAt)
    : Type 0 where
  pub sound : IsSound program
  pub count : length rows ≡ decoded_once (code_of program)
  pub decoded : AreDecoded (code_of program) rows
  pub line_count : length lines ≡ decoded_once (code_of program)
  pub lined : AreFlats (code_of program) lines
  pub told : TellAll (code_of program) lines

-- memory at the start: the image at its base, and zeros
unfoldable pub opening_memory : ProgramValue → List ℕ
opening_memory program =
    replicate program.base 0 ++ program.bytes ++ replicate (program.mem_size - (program.base + length program.bytes)) 0

-- the registers of a core at the start: EAX is its number, ECX the number of cores, ESP the end of its stack, and
-- EIP its entry
unfoldable pub start_regs : ProgramValue → ℕ → Regs
start_regs program core = record {
  gpr = core ∷ length program.entries ∷ 0 ∷ 0 ∷ (program.mem_size - 4096 * core) ∷ 0 ∷ 0 ∷ 0 ∷ [];
  flags = record { 0 = 0 };
  eip = slice_index program.entries core;
}
