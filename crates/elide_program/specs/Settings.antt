-- What the options of a command line say of a machine (docs/FORMATS.md, "Options of the command line").
use Rattle.std.specs.Prelude.{◌≡◌, ℕ, ◌^◌, Bool, false, List, nat_lt, if◌then◌else◌, Option, Some, None}
use Rattle.std.specs.Prelude.{option_and_then, option_map}
use Rattle.std.specs.Option.{option_copied}
use Rattle.ia_lex.specs.Numbers.{word_number}
use Rattle.elide_args.specs.declared.subcommand.MachineOptions.{MachineOptions}
use Rattle.elide_program.specs.declared.settings.Settings.{Settings}

abbrev pub below : ℕ → ℕ → Option ℕ
below most number = if nat_lt number most then Some number else None

-- the number that a word writes, where it is below 2^32
abbrev pub word32 : List ℕ → Option ℕ
word32 word = option_and_then (below (2 ^ 32)) (word_number word)

-- the number that an option says
abbrev pub number_said : Option (List ℕ) → Option ℕ
number_said option = option_and_then word32 option

-- or its default where it is not given
abbrev pub number_or : ℕ → Option (List ℕ) → Option ℕ
number_or default None = Some default
number_or default (Some word) = word32 word

-- stores may be pending: the option says how many, and not 0
abbrev pub is_above_none : Option ℕ → Bool
is_above_none None = false
is_above_none (Some number) = nat_lt 0 number

abbrev pub has_store_buffer : MachineOptions → Bool
has_store_buffer options = is_above_none (number_or 0 (option_copied options.store_buffer))

-- the numbers of a machine are those that the options say, its cores begin where they say, and what is printed of
-- memory is what they ask for
pub record AreSettings (options : MachineOptions) (settings : Settings) : Type 0 where
  pub cores : number_or 1 (option_copied options.cores) ≡ Some settings.cores
  pub memory : number_or 65536 (option_copied options.memory) ≡ Some settings.memory
  pub entries : option_map (λ list. list.text.now) settings.entries ≡ option_copied options.entry
  pub reads : number_or 512 (option_copied options.reads) ≡ Some settings.reads
  pub writes : number_or 512 (option_copied options.writes) ≡ Some settings.writes
  pub stores : number_or 0 (option_copied options.store_buffer) ≡ Some settings.stores
  pub dumps : settings.dumps.now ≡ options.dumps.items
  pub shows : settings.shows.now ≡ options.shows.items
