-- Items of a check, as their words say them (docs/FORMATS.md, "Checks"). Which names are numbers is given as a test.
use Rattle.std.specs.Prelude.{◌≡◌, ◌≢◌, ◌⊎◌, ℕ, ◌<◌, ◌-◌, ◌==◌, ◌||◌, Bool, true, false, not, List, [], ◌∷◌, length}
use Rattle.std.specs.Prelude.{Some, drop, is_some, take}
use Rattle.std.specs.Char.{is_ascii_whitespace}
use Rattle.std.specs.List.{after_first, before_first, list_all, position_or_len, prefix_len, slice_split, suffix_len}
use Rattle.elide_program.specs.Sums.{IsSum, is_sign}
use Rattle.elide_program.specs.declared.file.ProgramFile.{ProgramFile}
use Rattle.elide_program.specs.Settings.{word32}
use Rattle.ia_lex.specs.Words.{register_of}
use Rattle.ia_word.specs.declared.width.Width.TheVariants.{D}
use Rattle.tm_check.specs.declared.clause.Quantity.{Quantity}
use Rattle.tm_check.specs.declared.clause.Quantity.TheVariants.{OfMachine, OfRun}
use Rattle.tm_condition.specs.declared.item.Item.TheVariants.{Register, Memory, Number}
use Rattle.elide_checks.specs.Counts.{IsCountOf, core_said}
use Rattle.elide_checks.specs.declared.items.Side.{Side}
use Rattle.elide_checks.specs.declared.items.Side.TheVariants.{Left, Right}

-- `@`
abbrev pub is_at : ℕ → Bool
is_at byte = byte == 64

-- where the first stands, or the end
abbrev pub at_place : List ℕ → ℕ
at_place word = position_or_len is_at word

-- without the white space around it
abbrev pub behind_space : List ℕ → List ℕ
behind_space term = drop (prefix_len is_ascii_whitespace term) term

abbrev pub trimmed : List ℕ → List ℕ
trimmed term =
    take (length (behind_space term) - suffix_len is_ascii_whitespace (behind_space term)) (behind_space term)

-- a term of a sum is a number, or the name of one; before the sign that a sum begins with there is none
abbrev pub is_number : (List ℕ → Bool) → List ℕ → Bool
is_number constants [] = true
is_number constants (byte ∷ bytes) = is_some (word32 (byte ∷ bytes)) || constants (byte ∷ bytes)

-- each of its terms is
abbrev pub are_numbers : (List ℕ → Bool) → List ℕ → Bool
are_numbers constants sum = list_all (λ term. is_number constants (trimmed term)) (slice_split is_sign sum)

-- A sum stands for the doubleword at its value where it holds a label, and for its value where it is of numbers alone;
-- on the left the latter is an address, too.
abbrev pub is_address : (List ℕ → Bool) → Side → List ℕ → Bool
is_address constants Left sum = true
is_address constants Right sum = not (are_numbers constants sum)

-- what stands before an `@` and behind it: the name of a register of 32 bits, and the number of a core; or a count
abbrev pub IsNamed : List ℕ → List ℕ → Quantity → Type 0
IsNamed name whose (OfMachine (Register core register)) =
    (register_of name ≡ Some (D, register)) × (core_said whose ≡ Some core)
IsNamed name whose (OfMachine (Memory address)) = ⊥
IsNamed name whose (OfMachine (Number number)) = ⊥
IsNamed name whose (OfRun count) = IsCountOf name whose count

-- the parts of a word before its first `@` and behind it
pub record IsParted (word before behind : List ℕ) : Type 0 where
  pub first : before ≡ before_first is_at word
  pub rest : behind ≡ after_first is_at word
  pub has_at : at_place word < length word

-- they say so
pub record IsNamedBy (word : List ℕ) (quantity : Quantity) : Type 0 where
  pub before : List ℕ
  pub behind : List ℕ
  pub parts : IsParted word before behind
  pub named : IsNamed before behind quantity

-- a sum without an `@`, and with no `&` in front, which is taken so
pub record IsSumAs (file : ProgramFile) (constants : List ℕ → Bool) (side : Side) (word : List ℕ) (value : ℕ)
    (address : Bool) : Type 0 where
  pub has_none : at_place word ≡ length word
  pub plain : (behind : List ℕ) → word ≢ 38 ∷ behind
  pub sum : IsSum file word (Some value)
  pub taken : is_address constants side word ≡ address

-- a sum behind `&`, without an `@`, its value itself
pub record IsAddressOf (file : ProgramFile) (word : List ℕ) (value : ℕ) : Type 0 where
  pub behind : List ℕ
  pub has_none : at_place word ≡ length word
  pub whole : word ≡ 38 ∷ behind
  pub sum : IsSum file behind (Some value)

abbrev pub IsItem : ProgramFile → (List ℕ → Bool) → Side → List ℕ → Quantity → Type 0
IsItem file constants side word (OfMachine (Register core register)) =
    IsNamedBy word (OfMachine (Register core register))
IsItem file constants side word (OfMachine (Memory address)) = IsSumAs file constants side word address true
IsItem file constants side word (OfMachine (Number number)) =
    IsAddressOf file word number ⊎ IsSumAs file constants side word number false
IsItem file constants side word (OfRun count) = IsNamedBy word (OfRun count)
