-- Why there is no program, or not what is asked for of it (docs/FAULTS.md; docs/FORMATS.md, "Options of the command
-- line"). Want of memory is a reason at each place where memory is taken.
use Rattle.std.specs.Prelude.{◌≡◌, ◌≢◌, ℕ, ◌⊎◌, ◌++◌, ◌∷◌, false, true, List, length, Contains}
use Rattle.std.specs.Prelude.{Option, Some, None, Err, codes}
use Rattle.std.specs.Borrow.{Bor}
use Rattle.std.specs.Option.{option_copied}
use Rattle.ia_asm.specs.Assembles.{AssemblesImage}
use Rattle.ia_asm.specs.declared.fault.AsmFault.{AsmFault}
use Rattle.ia_elf.specs.Fields.{IsMagic}
use Rattle.ia_image.specs.ImageText.{Tells as TellsImage, image_read}
use Rattle.ia_image.specs.declared.fault.ImageFault.{ImageFault}
use Rattle.ia_image.specs.declared.fault.LoadFault.TheVariants as load
use Rattle.elide_args.specs.declared.subcommand.MachineOptions.{MachineOptions}
use Rattle.elide_program.specs.Entries.{IsEntry, entry_words, is_entry_list}
use Rattle.elide_program.specs.Forms.{HasNoColon, IsNoDump, is_sum_form}
use Rattle.elide_program.specs.ProgramFile.{IsSource, TellsElf, is_image}
use Rattle.elide_program.specs.Settings.{number_or, word32}
use Rattle.elide_program.specs.Sums.{IsSum}
use Rattle.elide_program.specs.declared.entries.EntryList.{EntryList}
use Rattle.elide_program.specs.declared.fault.ProgramFault.TheVariants as fault
use Rattle.elide_program.specs.declared.fault.ProgramRefusal.{ProgramRefusal}
use Rattle.elide_program.specs.declared.fault.ProgramRefusal.TheVariants as refusal
use Rattle.elide_program.specs.declared.file.ProgramFile.{ProgramFile}

-- the option of this name is named
abbrev pub NamesOption : List ℕ → ProgramRefusal → Type 0
NamesOption name (refusal.Fault why) = ⊥
NamesOption name (refusal.Usage said) = said.now ≡ name

-- memory was wanting
abbrev pub IsWant : ProgramRefusal → Type 0
IsWant why = why ≡ refusal.Fault (fault.Load load.NoMemory)

-- the option of a machine that is named has a value that is not of its form
pub data IsMisread (options : MachineOptions) (why : ProgramRefusal) : Type 0 where
  bad_cores : number_or 1 (option_copied options.cores) ≡ None → NamesOption (codes "--cores") why
      → IsMisread options why
  bad_memory : number_or 65536 (option_copied options.memory) ≡ None → NamesOption (codes "--mem") why
      → IsMisread options why
  bad_entry : (text : List ℕ) (cores : ℕ) → option_copied options.entry ≡ Some text
      → number_or 1 (option_copied options.cores) ≡ Some cores → is_entry_list text cores ≡ false
      → NamesOption (codes "--entry") why → IsMisread options why
  bad_reads : number_or 512 (option_copied options.reads) ≡ None → NamesOption (codes "--reads") why
      → IsMisread options why
  bad_writes : number_or 512 (option_copied options.writes) ≡ None → NamesOption (codes "--writes") why
      → IsMisread options why
  bad_stores : number_or 0 (option_copied options.store_buffer) ≡ None → NamesOption (codes "--store-buffer") why
      → IsMisread options why
  bad_dump : (text : Bor (List ℕ)) → Contains options.dumps.items text → IsNoDump text.now
      → NamesOption (codes "--dump") why → IsMisread options why
  bad_show : (text : Bor (List ℕ)) → Contains options.shows.items text → is_sum_form text.now ≡ false
      → NamesOption (codes "--show") why → IsMisread options why

-- a text is no program: as an executable, as image text or as a source it has the fault that is told
pub data IsNoProgram (text : List ℕ) (why : ProgramRefusal) : Type 0 where
  no_elf : IsMagic text → TellsElf text why → IsNoProgram text why
  no_image : (f : ImageFault) → is_image text ≡ true → TellsImage (image_read text) f
      → why ≡ refusal.Fault (fault.Image f) → IsNoProgram text why
  no_source : (f : AsmFault) → IsSource text → AssemblesImage text (Err f) → why ≡ refusal.Fault (fault.Assemble f)
      → IsNoProgram text why

-- a file does not say where the cores begin that `--entry` lists: a word is no symbol of it, or there are not as many
-- words as cores
pub data HasNoStart (file : ProgramFile) (list : List ℕ) (cores : ℕ) (why : ProgramRefusal) : Type 0 where
  no_symbol : (word : List ℕ) → Contains (entry_words list) word → IsEntry file word None
      → NamesOption (codes "--entry") why → HasNoStart file list cores why
  other_count : length (entry_words list) ≢ 1 → length (entry_words list) ≢ cores → NamesOption (codes "--entry") why
      → HasNoStart file list cores why
  no_memory : IsWant why → HasNoStart file list cores why

-- the same of all cores, which begin where the file does where no list is given
abbrev pub HasNoStarts : ProgramFile → Option EntryList → ℕ → ProgramRefusal → Type 0
HasNoStarts file None cores why = IsWant why
HasNoStarts file (Some list) cores why = HasNoStart file list.text.now cores why

-- the text asks for no part of memory by a file: it is not `AT:BYTES`, `AT` has no value in the file, or `BYTES` is no
-- number
abbrev pub IsNoPart : ProgramFile → List ℕ → Type 0
IsNoPart file text = HasNoColon text
    ⊎ ((at : List ℕ) × (count : List ℕ) × (text ≡ at ++ 58 ∷ count) × (IsSum file at None ⊎ (word32 count ≡ None)))

-- a file does not have what is to be printed of memory: an option that is named has a text without a value in it
pub data HasNoPart (file : ProgramFile) (dumps shows : List (Bor (List ℕ))) (why : ProgramRefusal) : Type 0 where
  no_dump : (text : Bor (List ℕ)) → Contains dumps text → IsNoPart file text.now → NamesOption (codes "--dump") why
      → HasNoPart file dumps shows why
  no_show : (text : Bor (List ℕ)) → Contains shows text → IsSum file text.now None → NamesOption (codes "--show") why
      → HasNoPart file dumps shows why
  no_room : IsWant why → HasNoPart file dumps shows why
