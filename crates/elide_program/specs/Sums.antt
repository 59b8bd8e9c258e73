-- Sums of a program's symbols and numbers (docs/FORMATS.md, "Options of the command line").
use Rattle.std.specs.Prelude.{◌≡◌, ℕ, ◌+◌, ◌-◌, ◌%◌, ◌^◌, ◌<◌, ◌==◌, ◌||◌, Bool, true, false, if◌then◌else◌}
use Rattle.std.specs.Prelude.{List, [], ◌∷◌, ◌++◌, Option, Some, None, option_map, length, slice_index}
use Rattle.std.specs.Str.{IsTrimAscii}
use Rattle.elide_program.specs.ProgramFile.{IsFileSymbol}
use Rattle.elide_program.specs.Settings.{word32}
use Rattle.elide_program.specs.declared.file.ProgramFile.{ProgramFile}

-- `+` or `-`
abbrev pub is_sign : ℕ → Bool
is_sign byte = (byte == 43) || (byte == 45)

-- a number, or else the address of a symbol, or neither
abbrev pub IsValueBy : ProgramFile → List ℕ → Option ℕ → Option ℕ → Type 0
IsValueBy file word (Some number) value = value ≡ Some number
IsValueBy file word None value = IsFileSymbol file word value

-- the value of a term, around which spaces may stand
abbrev pub IsTerm : ProgramFile → List ℕ → Option ℕ → Type 0
IsTerm file term value = (word : List ℕ) × IsTrimAscii term word × IsValueBy file word (word32 word) value

-- what a term adds, modulo 2^32
abbrev pub signed : ℕ → ℕ → ℕ
signed sign value = if sign == 45 then 2 ^ 32 - value else value

-- a sign stands in front, where there is a byte
abbrev pub BeginsWithSign : List ℕ → Type 0
BeginsWithSign bytes = 0 < length bytes → is_sign (slice_index bytes 0) ≡ true

abbrev pub HasNoSign : List ℕ → Type 0
HasNoSign bytes = (k : ℕ) → k < length bytes → is_sign (slice_index bytes k) ≡ false

-- the value modulo 2^32 of what stands behind a sign: of a term alone, or of a term and what stands behind the next
-- sign; none where a term is neither a number nor a symbol
pub data IsSumBehind (file : ProgramFile) : ℕ → List ℕ → Option ℕ → Type 0 where
  alone : {sign : ℕ} {term : List ℕ} {value : ℕ} → HasNoSign term → IsTerm file term (Some value)
      → IsSumBehind file sign term (Some (signed sign value % 2 ^ 32))
  more : {sign : ℕ} (term : List ℕ) (value next : ℕ) (others : List ℕ) (sum : Option ℕ)
      → HasNoSign term → IsTerm file term (Some value) → is_sign next ≡ true → IsSumBehind file next others sum
      → IsSumBehind file sign (term ++ next ∷ others) (option_map (λ s. (signed sign value + s) % 2 ^ 32) sum)
  wrong : {sign : ℕ} (term others : List ℕ) → HasNoSign term → IsTerm file term None → BeginsWithSign others
      → IsSumBehind file sign (term ++ others) None

-- the value of a sum without the spaces around it, whose first term has a sign in front or is added
abbrev pub is_trimmed_sum : Bool → ProgramFile → ℕ → List ℕ → Option ℕ → Type 0
is_trimmed_sum true file byte bytes value = IsSumBehind file byte bytes value
is_trimmed_sum false file byte bytes value = IsSumBehind file 43 (byte ∷ bytes) value

abbrev pub IsTrimmedSum : ProgramFile → List ℕ → Option ℕ → Type 0
IsTrimmedSum file [] value = IsSumBehind file 43 [] value
IsTrimmedSum file (byte ∷ bytes) value = is_trimmed_sum (is_sign byte) file byte bytes value

abbrev pub IsSum : ProgramFile → List ℕ → Option ℕ → Type 0
IsSum file text value = (sum : List ℕ) × IsTrimAscii text sum × IsTrimmedSum file sum value
