-- Operands as bytes in memory.
use Rattle.std.specs.Prelude.{ℕ, ◌+◌, List, [], ◌∷◌, slice_index}
use Rattle.ia_word.specs.declared.width.Width.{Width}
use Rattle.ia_word.specs.declared.width.Width.TheVariants.{B, D}
use Rattle.ia_word.specs.Bytes.{long_bytes, long_of}

-- the bytes of an operand, the lowest first (SDM volume 1, section 1.3.1 "Bit and Byte Order")
abbrev pub operand_bytes : Width → ℕ → List ℕ
operand_bytes B value = value ∷ []
operand_bytes D value = long_bytes value

-- the operand of these bytes
abbrev pub operand_of : Width → List ℕ → ℕ
operand_of B bytes = slice_index bytes 0
operand_of D bytes = long_of bytes

-- the bytes of a store, each with its address
abbrev pub placed_bytes : ℕ → List ℕ → List (ℕ × ℕ)
placed_bytes address [] = []
placed_bytes address (byte ∷ bytes) = (address, byte) ∷ placed_bytes (address + 1) bytes
