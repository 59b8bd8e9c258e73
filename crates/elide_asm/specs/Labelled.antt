-- A listing with labels (docs/FORMATS.md, "Listing"): above each line stand the labels of its address, and code that is
-- no instruction of the subset is shown whole, as bytes, with what it is.
use Rattle.std.specs.Prelude.{◌≡◌, ◌≢◌, ◌⊎◌, ℕ, ◌+◌, ◌%◌, ◌^◌, ◌<◌, ◌≤◌, true, false, Option, Some, None}
use Rattle.std.specs.Prelude.{Result, Ok, Err, List, [], ◌++◌, codes, drop, flat_map, slice_index, take, unwrap_or}
use Rattle.ia_insn.specs.declared.fault.DecodeFault.{DecodeFault}
use Rattle.ia_insn.specs.declared.fault.DecodeFault.TheVariants.{Short, NotInSubset, LockNotAllowed}
use Rattle.ia_insn.specs.declared.op.Insn.{Insn}
use Rattle.ia_insn.specs.Reading.{decoding_of}
use Rattle.ia_foreign.specs.Length.{foreign_length, is_foreign_code}
use Rattle.ia_foreign.specs.declared.words.Words.{Words}
use Rattle.ia_text.specs.Listing.{in_places, listing_line, shown_bytes}
use Rattle.text_out.specs.Number.{eight_digits, number}
use Rattle.symbols.specs.Marks.{marks_at}
use Rattle.symbols.specs.declared.marks.Mark.{Mark}

-- ---- labels

-- a line for each
abbrev pub name_line : List ℕ → List ℕ
name_line name = name ++ codes ":\n"

abbrev pub mark_lines : List Mark → List ℕ
mark_lines marks = flat_map (λ m. name_line m.name.now) marks

-- ---- code outside of the subset

-- bytes as a line of `db` has them
abbrev pub next_byte : ℕ → List ℕ
next_byte byte = codes ", " ++ number byte

unfoldable pub db_text : List ℕ → List ℕ
db_text bytes = codes "db " ++ number (slice_index bytes 0) ++ flat_map next_byte (drop 1 bytes)

-- what an instruction is, where it is a known one
abbrev pub name_text : Option Words → List ℕ
name_text None = []
name_text (Some words) = words.front.now ++ words.name.now ++ codes ": "

-- what comes of it: an instruction that takes no LOCK has one, or it is none of the subset
abbrev pub outcome_text : Result (Insn × ℕ) DecodeFault → List ℕ
outcome_text (Ok found) = []
outcome_text (Err Short) = []
outcome_text (Err NotInSubset) = codes "not in the subset"
outcome_text (Err LockNotAllowed) = codes "#UD"

-- the line of these bytes at an address
unfoldable pub foreign_line : List ℕ → ℕ → Option Words → List ℕ → List ℕ
foreign_line bytes at words outcome = eight_digits at ++ codes "  " ++ in_places bytes ++ codes "  " ++ db_text bytes
    ++ codes "  ; " ++ name_text words ++ outcome ++ codes "\n"

-- how many bytes an instruction takes, or one where that is not sure
abbrev pub foreign_bytes : List ℕ → ℕ
foreign_bytes code = unwrap_or (foreign_length code) 1

-- so many of `most` bytes at an address stand before the next label behind the first
pub record IsBeforeLabel (marks : List Mark) (at most count : ℕ) : Type 0 where
  pub some : 0 < count
  pub within : count ≤ most
  pub none : (k : ℕ) → 0 < k → k < count → marks_at marks ((at + k) % 2 ^ 32) ≡ []
  pub label : count < most → marks_at marks ((at + count) % 2 ^ 32) ≢ []

-- ---- the listing

-- the line of what stands in front of some code, and how many bytes it shows: as in the listing without labels, and of
-- code outside of the subset with the bytes of the instruction, up to the next label
abbrev pub IsLine : List Mark → List ℕ → ℕ → ℕ → List ℕ → Type 0
IsLine marks code at count line =
    ((is_foreign_code code ≡ false) × (count ≡ shown_bytes code) × (line ≡ listing_line code at))
    ⊎ ((is_foreign_code code ≡ true) × IsBeforeLabel marks at (foreign_bytes code) count
    × (words : Option Words) × (line ≡ foreign_line (take count code) at words (outcome_text (decoding_of code))))

-- the address of a place in some code; addresses count modulo 2^32
abbrev pub address_of : ℕ → ℕ → ℕ
address_of base place = (base + place) % 2 ^ 32

-- the lines of so many bytes of some code at an address, each behind the labels at its address
pub data IsListed (marks : List Mark) (code : List ℕ) (base : ℕ) : ℕ → List ℕ → Type 0 where
  none : IsListed marks code base 0 []
  line : (place count : ℕ) (text shown : List ℕ) → IsListed marks code base place text
      → IsLine marks (drop place code) (address_of base place) count shown
      → IsListed marks code base (place + count)
      (text ++ (mark_lines (marks_at marks (address_of base place)) ++ shown))
