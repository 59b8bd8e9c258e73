-- The bytes of an operand in memory or a register: ModRM, SIB and displacement (SDM vol. 2A, "ModR/M and SIB Bytes",
-- tables "32-Bit Addressing Forms with the ModR/M Byte" and "with the SIB Byte").
use Rattle.std.specs.Prelude.{◌≡◌, ◌≢◌, ℕ, ◌/◌, ◌%◌, ◌^◌, ◌<◌, List, [], ◌∷◌, Option, Some, None, if◌then◌else◌, ◌==◌}
use Rattle.std.specs.Int.{w16, to_le_bytes}
use Rattle.ia_word.specs.Bytes.{long_bytes, sign_extended}
use Rattle.ia_insn.specs.declared.operand.Mem.{Mem}
use Rattle.ia_insn.specs.declared.operand.Operand.{Operand}
use Rattle.ia_insn.specs.declared.operand.Operand.TheVariants.{Reg, Mem as Memory}

-- mod(2) reg(3) rm(3)
pub record Head : Type 0 where
  pub mode : ℕ
  pub reg : ℕ
  pub rm : ℕ

-- what a ModRM byte says
abbrev pub head_of : ℕ → Head
head_of b = record { mode = b / 64; reg = b / 8 % 8; rm = b % 8 }

-- 2 bytes, little-endian
abbrev pub word : ℕ → List ℕ
word n = to_le_bytes w16 n

-- SIB: scale(2) index(3) base(3). Index 4 means no index, whatever the scale; without index the scale is 1.
abbrev pub index_of : ℕ → Option ℕ
index_of sib = if sib / 8 % 8 == 4 then None else Some (sib / 8 % 8)

abbrev pub scale_of : ℕ → ℕ
scale_of sib = if sib / 8 % 8 == 4 then 1 else 2 ^ (sib / 64)

-- the displacement behind mod: none, a sign-extended byte, or 32 bits
pub data SpellsDisp : ℕ → List ℕ → ℕ → Type 0 where
  no_disp : SpellsDisp 0 [] 0
  disp8 : {b : ℕ} → b < 256 → SpellsDisp 1 (b ∷ []) (sign_extended b)
  disp32 : {n : ℕ} → n < 2 ^ 32 → SpellsDisp 2 (long_bytes n) n

-- A base and a displacement, where rm or SIB names register r as the base: mod 0 with 5 is disp32 and no base.
pub data SpellsBase : ℕ → ℕ → List ℕ → Option ℕ → ℕ → Type 0 where
  no_base : {n : ℕ} → n < 2 ^ 32 → SpellsBase 0 5 (long_bytes n) None n
  base : {mode r disp : ℕ} {bytes : List ℕ} → (mode ≡ 0 → r ≢ 5) → SpellsDisp mode bytes disp
      → SpellsBase mode r bytes (Some r) disp

-- what stands behind a ModRM byte with mod below 3
pub data SpellsMem : ℕ → ℕ → List ℕ → Mem → Type 0 where
  plain : {mode rm disp : ℕ} {bytes : List ℕ} {b : Option ℕ} → rm ≢ 4 → SpellsBase mode rm bytes b disp
      → SpellsMem mode rm bytes (record { base = b; index = None; scale = 1; disp = disp })
  sib : {mode s disp : ℕ} {bytes : List ℕ} {b : Option ℕ} → s < 256 → SpellsBase mode (s % 8) bytes b disp
      → SpellsMem mode 4 (s ∷ bytes) (record { base = b; index = index_of s; scale = scale_of s; disp = disp })

-- what stands behind a ModRM byte, and the operand that both are
pub data SpellsOperand : Head → List ℕ → Operand → Type 0 where
  register : {h : Head} → h.mode ≡ 3 → SpellsOperand h [] (Reg h.rm)
  memory : {h : Head} {bytes : List ℕ} {m : Mem} → h.mode ≢ 3 → SpellsMem h.mode h.rm bytes m
      → SpellsOperand h bytes (Memory m)
