-- What an outcome shows, as the words of `--show` say it (docs/FORMATS.md, "Outcomes").
use Rattle.std.specs.Prelude.{◌≡◌, ℕ, ◌<◌, ◌==◌, Bool, false, List, [], ◌∷◌, ◌++◌, length, Option, Some, None}
use Rattle.std.specs.Char.{is_not_whitespace, is_whitespace}
use Rattle.std.specs.List.{after_first, before_first, position_or_len}
use Rattle.std.specs.Str.{EmptyOrStartsWithPassing, NoCharPasses}
use Rattle.ia_lex.specs.Words.{register_of}
use Rattle.ia_word.specs.declared.width.Width.TheVariants.{D}
use Rattle.elide_checks.specs.Counts.{core_said}
use Rattle.elide_checks.specs.Misread.{IsNoRegister}
use Rattle.elide_program.specs.Sums.{IsSum}
use Rattle.elide_program.specs.declared.file.ProgramFile.{ProgramFile}
use Rattle.tm_outcomes.specs.declared.trial.Item.{Item}
use Rattle.tm_outcomes.specs.declared.trial.Item.TheVariants.{Register, Memory}

-- ---- a word

-- `@`
abbrev pub is_at : ℕ → Bool
is_at byte = byte == 64

-- where the first stands, or the end
abbrev pub at_place : List ℕ → ℕ
at_place word = position_or_len is_at word

-- the name of a register of 32 bits, and behind the first `@` the number of a core
pub record IsRegister (word : List ℕ) (core register : ℕ) : Type 0 where
  pub has_at : at_place word < length word
  pub name : register_of (before_first is_at word) ≡ Some (D, register)
  pub number : core_said (after_first is_at word) ≡ Some core

-- or, without an `@`, a sum that says the address of a doubleword
pub record IsAddress (file : ProgramFile) (word : List ℕ) (address : ℕ) : Type 0 where
  pub has_none : at_place word ≡ length word
  pub sum : IsSum file word (Some address)

abbrev pub IsItem : ProgramFile → List ℕ → Item → Type 0
IsItem file word (Register core register) = IsRegister word core register
IsItem file word (Memory address) = IsAddress file word address

-- a word is no item: before its first `@` stands the name of no register of 32 bits, or behind it no core's number; or
-- it has no `@`, and its sum says nothing
pub data IsNoShownItem (file : ProgramFile) (word : List ℕ) : Type 0 where
  no_register : at_place word < length word → IsNoRegister (before_first is_at word) → IsNoShownItem file word
  no_core : at_place word < length word → core_said (after_first is_at word) ≡ None → IsNoShownItem file word
  no_sum : at_place word ≡ length word → IsSum file word None → IsNoShownItem file word

-- ---- words with white space between

-- a text is white space, a word, and a rest, which is empty or begins with white space
pub record BeginsWithWord (text word rest : List ℕ) : Type 0 where
  pub gap : List ℕ
  pub whole : text ≡ gap ++ (word ++ rest)
  pub some : 0 < length word
  pub gap_is_blank : NoCharPasses is_not_whitespace gap
  pub word_has_none : NoCharPasses is_whitespace word
  pub rest_is_apart : (more : List ℕ) × EmptyOrStartsWithPassing is_whitespace rest more

-- these are the words of the text, in their order
abbrev pub AreWords : List ℕ → List (List ℕ) → Type 0
AreWords text [] = NoCharPasses is_not_whitespace text
AreWords text (word ∷ words) = (rest : List ℕ) × BeginsWithWord text word rest × AreWords rest words

-- each word of the text says an item, in their order
abbrev pub SaysItems : ProgramFile → List ℕ → List Item → Type 0
SaysItems file text [] = NoCharPasses is_not_whitespace text
SaysItems file text (item ∷ items) =
    (word : List ℕ) × (rest : List ℕ)
    × BeginsWithWord text word rest × IsItem file word item × SaysItems file rest items

-- a word of the text is no item
pub data HasNoItem (file : ProgramFile) : List ℕ → Type 0 where
  first : {text : List ℕ} (word rest : List ℕ) → BeginsWithWord text word rest → IsNoShownItem file word
      → HasNoItem file text
  later : {text : List ℕ} (word rest : List ℕ) → BeginsWithWord text word rest → HasNoItem file rest
      → HasNoItem file text

-- ---- the option

-- it says one item at least; there are none where it is not given, which may be where nothing is wanted of it
abbrev pub AreItems : ProgramFile → Bool → Option (List ℕ) → List Item → Type 0
AreItems file is_wanted None items = (is_wanted ≡ false) × (items ≡ [])
AreItems file is_wanted (Some text) items = SaysItems file text items × (0 < length items)

-- these are its words, and none where it is not given
abbrev pub AreWordsOf : Option (List ℕ) → List (List ℕ) → Type 0
AreWordsOf None words = words ≡ []
AreWordsOf (Some text) words = AreWords text words
