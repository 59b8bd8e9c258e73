-- Image text: a line `image 1 BASE CODE` with two numbers in hex, and then the bytes of the image as lines of hex
-- digits.
use Rattle.std.specs.Prelude.{◌≡◌, ◌⊎◌, MatchResult, ℕ, zero, suc, ◌+◌, ◌/◌, ◌==◌, Bool, ◌&&◌, nat_lt, nat_le}
use Rattle.std.specs.Prelude.{if◌then◌else◌, List, [], ◌∷◌, ◌++◌, Option, Some, None, Result, Ok, Err, codes, drop}
use Rattle.std.specs.Prelude.{length, take}
use Rattle.std.specs.Char.{is_digit}
use Rattle.std.specs.List.{prefix_len, starts_with}
use Rattle.std.specs.Str.Parse.{digits_value}
use Rattle.hex.specs.Hex.{decode_of, encode_lower}
use Rattle.text_out.specs.Number.{hex_digits}
use Rattle.hex.specs.declared.error.FromHexError.{FromHexError}
use Rattle.ia_lex.specs.Lines.{lines_of}
use Rattle.ia_image.specs.declared.fault.ImageFault.{ImageFault}
use Rattle.ia_image.specs.declared.fault.ImageFault.TheVariants as fault

-- the numbers of the faults, and the line that is told
abbrev pub image_fault_number : ImageFault → ℕ
image_fault_number fault.NoMemory = 26
image_fault_number (fault.BadImageText line) = 27

abbrev pub image_fault_line : ImageFault → Option ℕ
image_fault_line fault.NoMemory = None
image_fault_line (fault.BadImageText line) = Some line

-- an image, the address of its first byte, and how many of its bytes are code
pub record Content : Type 0 where
  pub bytes : List ℕ
  pub base : ℕ
  pub code_len : ℕ

-- a digit of either case
abbrev pub is_hex : ℕ → Bool
is_hex c = is_digit c 16

-- the number of 1 to 8 hex digits in front, and how many digits it has
unfoldable pub number_in_front : List ℕ → Option (ℕ × ℕ)
number_in_front text =
    let count = prefix_len is_hex text in
    if nat_lt 0 count && nat_le count 8 then Some (digits_value 16 (take count text), count) else None

-- the last number of the first line, with nothing behind it
abbrev pub code_len_of : ℕ → List ℕ → Option (ℕ × ℕ) → Option (ℕ × ℕ)
code_len_of base text (Some number) = if number.1 == length text then Some (base, number.0) else None
code_len_of base text None = None

-- the numbers behind `image 1 `, with one space between
abbrev pub numbers_of : List ℕ → Option (ℕ × ℕ) → Option (ℕ × ℕ)
numbers_of text (Some number) =
    let rest = drop number.1 text in
    if starts_with ◌==◌ rest (codes " ") then code_len_of number.0 (drop 1 rest) (number_in_front (drop 1 rest))
    else None
numbers_of text None = None

-- base and code length of the first line
unfoldable pub header_of : List ℕ → Option (ℕ × ℕ)
header_of line =
    if starts_with ◌==◌ line (codes "image 1 ") then numbers_of (drop 8 line) (number_in_front (drop 8 line)) else None

-- bytes in front of those of later lines
abbrev pub behind : List ℕ → Result (List ℕ) ℕ → Result (List ℕ) ℕ
behind bytes (Ok more) = Ok (bytes ++ more)
behind bytes (Err line) = Err line

-- the bytes of the lines from this number on, or the first line that is no even number of digits
abbrev pub bytes_of_line : Result (List ℕ) FromHexError → ℕ → Result (List ℕ) ℕ → Result (List ℕ) ℕ
bytes_of_line (Ok bytes) number later = behind bytes later
bytes_of_line (Err e) number later = Err number

abbrev pub bytes_of_lines : ℕ → List (List ℕ) → Result (List ℕ) ℕ
bytes_of_lines number [] = Ok []
bytes_of_lines number (line ∷ lines) = bytes_of_line (decode_of line) number (bytes_of_lines (number + 1) lines)

abbrev pub content_of : ℕ × ℕ → Result (List ℕ) ℕ → Result Content ℕ
content_of numbers (Ok bytes) = Ok (record { bytes = bytes; base = numbers.0; code_len = numbers.1 })
content_of numbers (Err line) = Err line

abbrev pub content_behind : Option (ℕ × ℕ) → List (List ℕ) → Result Content ℕ
content_behind (Some numbers) lines = content_of numbers (bytes_of_lines 2 lines)
content_behind None lines = Err 1

-- what lines say, or the number of the first line that breaks the form; lines count from 1
abbrev pub content_of_lines : List (List ℕ) → Result Content ℕ
content_of_lines [] = Err 1
content_of_lines (line ∷ lines) = content_behind (header_of line) lines

unfoldable pub image_read : List ℕ → Result Content ℕ
image_read text = content_of_lines (lines_of text)

-- the fault tells the line, or memory was wanting
abbrev pub Tells : {A : Type 0} → Result A ℕ → ImageFault → Type 0
Tells {A} read f = (f ≡ fault.NoMemory) ⊎ ((line : ℕ) × (read ≡ Err line) × (f ≡ fault.BadImageText line))

-- the bytes of these lines were added, or the fault is told
abbrev pub Adds : List ℕ → List ℕ → Result (List ℕ) ℕ → Result Unit ImageFault → Type 0
Adds old new read result =
    MatchResult result (λ _. (more : List ℕ) × (read ≡ Ok more) × (new ≡ old ++ more)) (Tells read)

-- ---- the text that is written

-- so many rows: the digits of 32 bytes each, of the last maybe fewer
unfoldable pub rows : ℕ → List ℕ → List ℕ
rows zero bytes = []
rows (suc n) bytes = encode_lower (take 32 bytes) ++ 10 ∷ rows n (drop 32 bytes)

-- bytes as rows
abbrev pub digit_rows : List ℕ → List ℕ
digit_rows bytes = rows ((length bytes + 31) / 32) bytes

-- the first line
abbrev pub header_line : ℕ → ℕ → List ℕ
header_line base code_len = codes "image 1 " ++ hex_digits base ++ codes " " ++ hex_digits code_len

unfoldable pub image_text : List ℕ → ℕ → ℕ → List ℕ
image_text bytes base code_len = header_line base code_len ++ 10 ∷ digit_rows bytes
