-- Bytes that were stored, with their addresses (page/README.md): of bytes side by side the address of the first, and
-- behind it all of them in hex, as a string.
use Rattle.std.specs.Prelude.{ℕ, ◌+◌, nat_eq, List, [], ◌∷◌, ◌++◌, codes, decimal, if◌then◌else◌}
use Rattle.hex.specs.Hex.{encode_lower}
use Rattle.page_steps.specs.Types.{StoredByte}

abbrev pub digits_of_byte : ℕ → List ℕ
digits_of_byte byte = encode_lower (byte ∷ [])

abbrev pub first_text : StoredByte → List ℕ
first_text byte = decimal byte.address ++ (codes ",\"" ++ digits_of_byte byte.byte)

-- a byte behind another one
abbrev pub joint_text : StoredByte → StoredByte → List ℕ
joint_text last byte =
    if nat_eq byte.address (last.address + 1) then digits_of_byte byte.byte
    else codes "\"," ++ first_text byte

abbrev pub more_text : StoredByte → List StoredByte → List ℕ
more_text last [] = []
more_text last (byte ∷ bytes) = joint_text last byte ++ more_text byte bytes

abbrev pub inner_text : List StoredByte → List ℕ
inner_text [] = []
inner_text (byte ∷ bytes) = first_text byte ++ (more_text byte bytes ++ codes "\"")

abbrev pub stored_text : List StoredByte → List ℕ
stored_text bytes = codes "[" ++ (inner_text bytes ++ codes "]")
