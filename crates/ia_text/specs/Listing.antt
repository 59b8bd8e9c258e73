-- Listing lines: an address, the bytes of an instruction, and its text.
use Rattle.std.specs.Prelude.{ℕ, ◌+◌, ◌-◌, ◌*◌, ◌%◌, ◌^◌, zero, suc, Result, Ok, Err, List, [], ◌∷◌, ◌++◌, codes}
use Rattle.std.specs.Prelude.{length, replicate, slice_index, take}
use Rattle.hex.specs.Hex.{encode_lower}
use Rattle.ia_insn.specs.declared.fault.DecodeFault.{DecodeFault}
use Rattle.ia_insn.specs.declared.op.Insn.{Insn}
use Rattle.ia_insn.specs.Reading.{decoding_of}
use Rattle.text_out.specs.Number.{eight_digits, number}
use Rattle.ia_text.specs.Text.{insn_text}

-- how many bytes a line shows: those of the instruction, or one where there is none
abbrev pub count_of : Result (Insn × ℕ) DecodeFault → ℕ
count_of (Ok x) = x.1
count_of (Err f) = 1

-- the instruction, or its first byte
abbrev pub entry_text : Result (Insn × ℕ) DecodeFault → ℕ → ℕ → List ℕ
entry_text (Ok x) byte at = insn_text x.0 at
entry_text (Err f) byte at = codes "db " ++ number byte

-- bytes in hex, on the left in 24 places
abbrev pub in_places : List ℕ → List ℕ
in_places bytes = encode_lower bytes ++ replicate (24 - 2 * length bytes) 32

abbrev pub line_text : Result (Insn × ℕ) DecodeFault → List ℕ → ℕ → List ℕ
line_text found code at = eight_digits at ++ codes "  " ++ in_places (take (count_of found) code) ++ codes "  "
    ++ entry_text found (slice_index code 0) at ++ 10 ∷ []

-- the first line of some code at an address, and how many bytes it shows
unfoldable pub listing_line : List ℕ → ℕ → List ℕ
listing_line [] at = []
listing_line (byte ∷ bytes) at = line_text (decoding_of (byte ∷ bytes)) (byte ∷ bytes) at

unfoldable pub shown_bytes : List ℕ → ℕ
shown_bytes [] = 0
shown_bytes (byte ∷ bytes) = count_of (decoding_of (byte ∷ bytes))

-- the lines behind so many bytes that are shown already; addresses count modulo 2^32
unfoldable pub listing_from : ℕ → List ℕ → ℕ → List ℕ
listing_from shown [] at = []
listing_from zero (byte ∷ bytes) at =
    listing_line (byte ∷ bytes) at ++ listing_from (shown_bytes (byte ∷ bytes) - 1) bytes ((at + 1) % 2 ^ 32)
listing_from (suc shown) (byte ∷ bytes) at = listing_from shown bytes ((at + 1) % 2 ^ 32)

-- the listing of some code at an address
abbrev pub listing : List ℕ → ℕ → List ℕ
listing code at = listing_from 0 code at
