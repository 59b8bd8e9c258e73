-- Where the cores begin, as `--entry` says (docs/FORMATS.md, "Options of the command line").
use Rattle.std.specs.Prelude.{◌≡◌, ℕ, ◌==◌, ◌&&◌, ◌||◌, Bool, false, not, List, [], ◌∷◌, length, replicate}
use Rattle.std.specs.Prelude.{Option, Some, None, is_some}
use Rattle.std.specs.Char.{is_ascii_alphanumeric, is_ascii_digit}
use Rattle.std.specs.List.{AllZip, list_all, slice_split}
use Rattle.elide_program.specs.ProgramFile.{file_start}
use Rattle.elide_program.specs.Settings.{word32}
use Rattle.elide_program.specs.Sums.{IsValueBy}
use Rattle.elide_program.specs.declared.entries.EntryList.{EntryList}
use Rattle.elide_program.specs.declared.file.ProgramFile.{ProgramFile}

-- the words of a list, between commas
abbrev pub entry_words : List ℕ → List (List ℕ)
entry_words text = slice_split (λ byte. byte == 44) text

-- a letter, a digit, `_` or `.`
abbrev pub is_name_part : ℕ → Bool
is_name_part byte = is_ascii_alphanumeric byte || ((byte == 95) || (byte == 46))

-- such bytes alone, and no digit first
abbrev pub is_name : List ℕ → Bool
is_name [] = false
is_name (first ∷ others) = not (is_ascii_digit first) && list_all is_name_part (first ∷ others)

-- a number below 2^32, or a name
abbrev pub is_entry : List ℕ → Bool
is_entry word = is_some (word32 word) || is_name word

-- one word, or one a core, each of which is an entry
abbrev pub is_entry_list : List ℕ → ℕ → Bool
is_entry_list text cores =
    ((length (entry_words text) == 1) || (length (entry_words text) == cores)) && list_all is_entry (entry_words text)

-- the address that a word says: the number, or else that of the symbol of this name, if there is one
abbrev pub IsEntry : ProgramFile → List ℕ → Option ℕ → Type 0
IsEntry file word address = IsValueBy file word (word32 word) address

-- the addresses of a list's words, in their order
abbrev pub AreEntries : ProgramFile → List ℕ → List ℕ → Type 0
AreEntries file text addresses =
    AllZip (λ word address. IsEntry file word (Some address)) (entry_words text) addresses

-- one address for all cores, or one a core
abbrev pub for_cores : ℕ → List ℕ → List ℕ
for_cores cores [] = []
for_cores cores (alone ∷ []) = replicate cores alone
for_cores cores (first ∷ second ∷ others) = first ∷ second ∷ others

-- where each core begins: as the list says, and where none is given at the base, of an executable at its entry
abbrev pub AreStarts : ProgramFile → Option EntryList → ℕ → List ℕ → Type 0
AreStarts file None cores starts = starts ≡ replicate cores (file_start file)
AreStarts file (Some list) cores starts =
    (addresses : List ℕ) × AreEntries file list.text.now addresses × (starts ≡ for_cores cores addresses)
