-- Packets of gdb's remote serial protocol (gdb manual, appendix E.1, "Overview").
use Rattle.std.specs.Prelude.{ℕ, ◌%◌, ◌==◌, ◌||◌, Bool, true, false, if◌then◌else◌, bit_xor, List, [], ◌∷◌, ◌++◌, sum}
use Rattle.std.specs.Prelude.{Option, Some, None, option_map, flat_map}
use Rattle.hex.specs.Hex.{encode_lower}

-- the sum of the bytes modulo 256, and its two digits
abbrev pub checksum : List ℕ → ℕ
checksum text = sum text % 256

abbrev pub checksum_digits : List ℕ → List ℕ
checksum_digits text = encode_lower (checksum text ∷ [])

-- $ and #, which bound a packet, and so stand in no text
abbrev pub is_bound : ℕ → Bool
is_bound byte = (byte == 36) || (byte == 35)

-- what a text escapes: $, #, }, and * in what is answered
abbrev pub is_escaped : ℕ → Bool
is_escaped byte = is_bound byte || (byte == 125) || (byte == 42)

-- } and the byte xor 0x20
abbrev pub escaped_byte : ℕ → List ℕ
escaped_byte byte = if is_escaped byte then 125 ∷ bit_xor byte 32 ∷ [] else byte ∷ []

-- the text that stands for some bytes
abbrev pub escaped : List ℕ → List ℕ
escaped bytes = flat_map escaped_byte bytes

-- a packet with this text
abbrev pub packet_of : List ℕ → List ℕ
packet_of text = 36 ∷ text ++ 35 ∷ checksum_digits text

-- the packet that tells some bytes
abbrev pub framed : List ℕ → List ℕ
framed bytes = packet_of (escaped bytes)

-- the bytes that the rest of a text stands for, behind a } or not, and nothing where it ends behind one or has a bound
unfoldable pub unescaped_from : Bool → List ℕ → Option (List ℕ)
unescaped_from false [] = Some []
unescaped_from true [] = None
unescaped_from true (byte ∷ text) = option_map (λ bytes. bit_xor byte 32 ∷ bytes) (unescaped_from false text)
unescaped_from false (byte ∷ text) =
    if byte == 125 then unescaped_from true text
    else if is_bound byte then None
    else option_map (λ bytes. byte ∷ bytes) (unescaped_from false text)

-- some bytes, and those that the rest of a text stands for
abbrev pub behind : List ℕ → Option (List ℕ) → Option (List ℕ)
behind bytes rest = option_map (λ more. bytes ++ more) rest

-- the bytes that a text stands for
abbrev pub unescaped : List ℕ → Option (List ℕ)
unescaped text = unescaped_from false text
