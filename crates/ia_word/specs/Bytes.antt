-- Bytes and doublewords.
use Rattle.std.specs.Prelude.{ℕ, ◌+◌, ◌-◌, ◌^◌, List, nat_lt, if◌then◌else◌}
use Rattle.std.specs.Int.{w32, to_le_bytes, from_le_bytes}

-- a byte as a signed number, in 32 bits (SDM volume 2, sign extension of immediates and displacements)
abbrev pub sign_extended : ℕ → ℕ
sign_extended byte = if nat_lt byte 128 then byte else byte + (2 ^ 32 - 256)

-- the four bytes of a doubleword, the lowest first (SDM volume 1, bit and byte order)
abbrev pub long_bytes : ℕ → List ℕ
long_bytes word = to_le_bytes w32 word

abbrev pub long_of : List ℕ → ℕ
long_of bytes = from_le_bytes w32 bytes
