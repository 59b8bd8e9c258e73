-- The symbols of a table (gABI, chapter 4, "Symbol Table"): 16 bytes each, st_name the word at 0, st_value the word at
-- 4, st_info the byte at 12, st_shndx the half at 14.
use Rattle.std.specs.Prelude.{◌≡◌, ℕ, ◌+◌, ◌*◌, ◌/◌, ◌%◌, ◌==◌, ◌<◌, Bool, List, Option, Some, None, length}
use Rattle.std.specs.Prelude.{drop, not, slice_index, take_while}
use Rattle.ia_elf.specs.Fields.{half_at, word_at}
use Rattle.ia_elf.specs.declared.symbols.Symbol.{Symbol}

-- the bytes of a name up to its NUL (chapter 4, "String Table")
abbrev pub is_not_nul : ℕ → Bool
is_not_nul byte = not (byte == 0)

abbrev pub name_at : List ℕ → ℕ → List ℕ
name_at strings at = take_while is_not_nul (drop at strings)

abbrev pub symbol_name : List ℕ → List ℕ → ℕ → List ℕ
symbol_name symbols strings k = name_at strings (word_at symbols (16 * k))

abbrev pub st_value : List ℕ → ℕ → ℕ
st_value symbols k = word_at symbols (16 * k + 4)

-- the kind is in the low four bits of st_info: STT_NOTYPE, STT_OBJECT or STT_FUNC
abbrev pub symbol_kind : List ℕ → ℕ → ℕ
symbol_kind symbols k = slice_index symbols (16 * k + 12) % 16

-- SHN_UNDEF is 0
abbrev pub st_shndx : List ℕ → ℕ → ℕ
st_shndx symbols k = half_at symbols (16 * k + 14)

-- the entry of this number has a name and an address in this file
pub record IsSymbol (symbols strings : List ℕ) (k : ℕ) : Type 0 where
  pub within : k < length symbols / 16
  pub kind : symbol_kind symbols k < 3
  pub defined : 0 < st_shndx symbols k
  pub named : 0 < length (symbol_name symbols strings k)

-- the entry of this number is a symbol of this name
abbrev pub IsNamed : List ℕ → List ℕ → List ℕ → ℕ → Type 0
IsNamed symbols strings name k = IsSymbol symbols strings k × (symbol_name symbols strings k ≡ name)

-- the symbol is what the entry of this number says, where it is one
abbrev pub IsSymbolAt : List ℕ → List ℕ → ℕ → Option Symbol → Type 0
IsSymbolAt symbols strings k None = ¬ IsSymbol symbols strings k
IsSymbolAt symbols strings k (Some s) = IsSymbol symbols strings k
    × (s.name.now ≡ symbol_name symbols strings k) × (s.value ≡ st_value symbols k)

-- this is the value of the first symbol of this name, and nothing where there is none
abbrev pub IsFirstValue : List ℕ → List ℕ → List ℕ → Option ℕ → Type 0
IsFirstValue symbols strings name None = (k : ℕ) → ¬ IsNamed symbols strings name k
IsFirstValue symbols strings name (Some value) = (k : ℕ) × IsNamed symbols strings name k
    × (value ≡ st_value symbols k) × ((j : ℕ) → j < k → ¬ IsNamed symbols strings name j)
