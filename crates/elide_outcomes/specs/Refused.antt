-- Why `elide outcomes` is refused (docs/FAULTS.md). Want of memory is a reason wherever memory is taken.
use Rattle.std.specs.Prelude.{◌≡◌, ◌≢◌, ◌≤◌, ⊤, ℕ, ◌+◌, Bool, true, not, List, [], ◌∷◌, All, length, codes}
use Rattle.std.specs.Prelude.{Option, Some, None, IfSome, slice_get}
use Rattle.std.specs.Borrow.{Bor}
use Rattle.std.specs.Option.{option_copied}
use Rattle.elide_args.specs.declared.subcommand.MachineOptions.{MachineOptions}
use Rattle.elide_args.specs.declared.subcommand.OutcomesOptions.{OutcomesOptions}
use Rattle.elide_checks.specs.Ends.{AreEndChecks}
use Rattle.elide_checks.specs.Reach.{HasEndCheck}
use Rattle.elide_checks.specs.Refused.{AreNoChecks, IsNoStop}
use Rattle.elide_checks.specs.Runs.{IsNoLimit}
use Rattle.elide_program.specs.Faults.{unread}
use Rattle.elide_program.specs.Files.{Gives, Tells, most_bytes}
use Rattle.elide_program.specs.ProgramFile.{IsFile}
use Rattle.elide_program.specs.Refusals.{IsMisread, IsNoProgram}
use Rattle.elide_program.specs.Settings.{AreSettings, number_said}
use Rattle.elide_program.specs.declared.fault.ProgramRefusal.{ProgramRefusal}
use Rattle.elide_program.specs.declared.file.ProgramFile.{ProgramFile}
use Rattle.elide_program.specs.declared.settings.Settings.{Settings}
use Rattle.elide_setup.specs.Events.{kinds_said}
use Rattle.elide_setup.specs.Faults.{refusal_of, want}
use Rattle.elide_setup.specs.Misuse.{IsMisuse}
use Rattle.elide_setup.specs.Refused.{IsAnyWant, IsNoMachine, IsNotLoaded, IsNotPaged, IsPageOver, IsUntold}
use Rattle.elide_setup.specs.Setup.{IsSetup}
use Rattle.elide_setup.specs.declared.fault.Fault.TheVariants as fault
use Rattle.elide_setup.specs.declared.fault.Refusal.{Refusal}
use Rattle.elide_setup.specs.declared.fault.Refusal.TheVariants as refusal
use Rattle.elide_setup.specs.declared.machine.Setup.{Setup}
use Rattle.tm_condition.specs.declared.check.Check.{Check}
use Rattle.tm_outcomes.specs.Outcomes.{AreThere}
use Rattle.tm_outcomes.specs.declared.table.FoundOutcome.{FoundOutcome}
use Rattle.tm_outcomes.specs.declared.trial.Item.{Item}
use Rattle.tm_outcomes.specs.declared.trial.Trial.{Trial}
use Rattle.tm_rule.specs.declared.kinds.Stop.{Stop}
use Rattle.elide_outcomes.specs.Items.{AreItems, AreWords, HasNoItem}
use Rattle.elide_outcomes.specs.Printed.{IsMade, IsSearched, asks_more}
use Rattle.elide_outcomes.specs.Stops.{AreStops}
use Rattle.elide_outcomes.specs.Under.{IsUnder}
use Rattle.elide_outcomes.specs.declared.found.Found.{Found}
use Rattle.elide_outcomes.specs.declared.paged.PageAsked.{PageAsked}
use Rattle.elide_outcomes.specs.declared.paged.PageAsked.TheVariants.{Nothing, Of}
use Rattle.elide_outcomes.specs.declared.under.Under.{Under}

-- ---- options that are misread

-- what the steps come under is neither `always` nor kinds of events
pub record IsNoUnder (option : Option (List ℕ)) (why : Refusal) : Type 0 where
  pub text : List ℕ
  pub given : option ≡ Some text
  pub other : text ≢ codes "always"
  pub none : kinds_said text ≡ None
  pub named : IsMisuse (codes "--events") why

-- nothing is said to be shown though that is wanted, or a text that has no word, or one that is no item
pub data AreNoItems (file : ProgramFile) (is_wanted : Bool) (option : Option (List ℕ)) (why : Refusal) : Type 0 where
  not_given : option ≡ None → is_wanted ≡ true → IsMisuse (codes "--show") why → AreNoItems file is_wanted option why
  no_words : (text : List ℕ) → option ≡ Some text → AreWords text [] → IsMisuse (codes "--show") why
      → AreNoItems file is_wanted option why
  no_item : (text : List ℕ) → option ≡ Some text → HasNoItem file text → IsMisuse (codes "--show") why
      → AreNoItems file is_wanted option why
  no_memory : why ≡ want → AreNoItems file is_wanted option why

-- the page of an outcome is asked for whose number is none from 1 on
pub record IsNoPage (page : List (Bor (List ℕ))) (why : Refusal) : Type 0 where
  pub number : Bor (List ℕ)
  pub path : Bor (List ℕ)
  pub given : page ≡ number ∷ path ∷ []
  pub none : IfSome (number_said (Some number.now)) (λ value. value ≡ 0)
  pub named : IsMisuse (codes "--page") why

-- it is what the option says: a number, which counts outcomes from 1, and a path
abbrev pub IsPageOf : List (Bor (List ℕ)) → PageAsked → Type 0
IsPageOf page Nothing = ⊤
IsPageOf page (Of index path) =
    (number : Bor (List ℕ)) × (page ≡ number ∷ path ∷ []) × (number_said (Some number.now) ≡ Some (index + 1))

-- its path is that of the program
pub record IsOverProgram (are_one : List ℕ → List ℕ → Option Bool) (page : List (Bor (List ℕ))) (file : List ℕ)
    (why : Refusal) : Type 0 where
  pub number : Bor (List ℕ)
  pub path : Bor (List ℕ)
  pub given : page ≡ number ∷ path ∷ []
  pub over : IsPageOver are_one (Some path) file None why

-- ---- a search

-- what is shown is not there, a limit on lines is none, or there is no memory for the search
pub data IsNotSearched (trial : Trial) (why : Refusal) : Type 0 where
  not_there : ¬ AreThere trial → why ≡ refusal.Fault fault.OutOfRange → IsNotSearched trial why
  unmade : IsNoMachine trial.limits why → IsNotSearched trial why
  no_room : IsAnyWant why → IsNotSearched trial why

-- a machine does not have all that the checks look at
pub record HasNotChecked (setup : Setup) (checks : List Check) (why : Refusal) : Type 0 where
  pub tells : why ≡ refusal.Fault fault.OutOfRange
  pub beyond : ¬ All (HasEndCheck setup.program.mem_size (length setup.program.entries)) checks

-- for what is said to be shown, checked and looked for of a machine there is no search
pub data IsNotSearchedBy (setup : Setup) (shown : List Item) (checked : List Check) (under : Under)
    (reasons : List Stop) (why : Refusal) : Type 0 where
  not_checked : HasNotChecked setup checked why → IsNotSearchedBy setup shown checked under reasons why
  not_searched : (trial : Trial) → IsMade setup shown checked under reasons trial → IsNotSearched trial why
      → IsNotSearchedBy setup shown checked under reasons why

-- nor by what the options say
pub record HasNoSearch (text : List ℕ) (file : ProgramFile) (setup : Setup) (options : OutcomesOptions) (under : Under)
    (reasons : List Stop) (why : Refusal) : Type 0 where
  pub items : List Item
  pub checks : List Check
  pub shown : AreItems file (not (asks_more options)) (option_copied options.show) items
  pub checked : AreEndChecks text file options.checks.items options.forbids.items checks
  pub none : IsNotSearchedBy setup items checks under reasons why

-- a program is not searched for what the options say: an option has no value in it, it is not loaded as the settings
-- say, its machine is not searched, or there is no memory
pub data IsNotFoundIn (text : List ℕ) (file : ProgramFile) (settings : Settings) (options : OutcomesOptions)
    (under : Under) (reasons : List Stop) (why : Refusal) : Type 0 where
  no_items : AreNoItems file (not (asks_more options)) (option_copied options.show) why
      → IsNotFoundIn text file settings options under reasons why
  no_checks : AreNoChecks text file options.checks.items options.forbids.items why
      → IsNotFoundIn text file settings options under reasons why
  not_loaded : (cause : ProgramRefusal) → IsNotLoaded file settings cause → why ≡ refusal_of cause
      → IsNotFoundIn text file settings options under reasons why
  no_search : (setup : Setup) → IsSetup file settings setup → HasNoSearch text file setup options under reasons why
      → IsNotFoundIn text file settings options under reasons why
  no_room : why ≡ want → IsNotFoundIn text file settings options under reasons why

-- the same of the program that a text is read as, which may be none
pub data IsNotFound (text : List ℕ) (settings : Settings) (options : OutcomesOptions) (under : Under)
    (reasons : List Stop) (why : Refusal) : Type 0 where
  no_program : (cause : ProgramRefusal) → IsNoProgram text cause → why ≡ refusal_of cause
      → IsNotFound text settings options under reasons why
  not_in : (file : ProgramFile) → IsFile text file → IsNotFoundIn text file settings options under reasons why
      → IsNotFound text settings options under reasons why

-- ---- a page

-- of these outcomes the one that is asked for has no page: fewer are told, or its schedule is not written as one, of
-- the program of this text
pub data IsNotShown (text : List ℕ) (options : MachineOptions) (told : List FoundOutcome)
    (asked : PageAsked) (why : Refusal)
    : Type 0 where
  none_told : (index : ℕ) (path : Bor (List ℕ)) → asked ≡ Of index path → length told ≤ index
      → IsMisuse (codes "--page") why → IsNotShown text options told asked why
  not_written : (index : ℕ) (path : Bor (List ℕ)) (one : FoundOutcome) → asked ≡ Of index path
      → slice_get told index ≡ Some one → IsNotPaged text options one.schedule.items why
      → IsNotShown text options told asked why

-- the page of an outcome is asked for and not written
pub record IsUnpaged (content : List ℕ → Option (List ℕ)) (options : OutcomesOptions) (why : Refusal) : Type 0 where
  pub page : PageAsked
  pub said : IsPageOf options.page.items page
  pub found : Found
  pub searched : IsSearched content options found
  pub refused : IsNotShown searched.asked.read.text options.machine found.search.outcomes.items page why

-- ---- the command

-- an option is misread, FILE is not read, its text not searched, or what was found is not told, or not shown on the
-- page that is asked for
pub data IsRefused (content : List ℕ → Option (List ℕ)) (are_one : List ℕ → List ℕ → Option Bool)
    (options : OutcomesOptions) (why : Refusal) : Type 0 where
  no_stop : IsNoStop options.stops.items why → IsRefused content are_one options why
  misread : (cause : ProgramRefusal) → IsMisread options.machine cause → why ≡ refusal_of cause
      → IsRefused content are_one options why
  no_under : IsNoUnder (option_copied options.events) why → IsRefused content are_one options why
  no_limit : IsNoLimit (option_copied options.limit) → IsMisuse (codes "--limit") why
      → IsRefused content are_one options why
  no_page : IsNoPage options.page.items why → IsRefused content are_one options why
  over_program : IsOverProgram are_one options.page.items options.machine.file.now why
      → IsRefused content are_one options why
  not_read : (cause : ProgramRefusal) → Tells unread (content options.machine.file.now) cause → why ≡ refusal_of cause
      → IsRefused content are_one options why
  not_found : (text : List ℕ) (settings : Settings) (under : Under) (reasons : List Stop)
      → Gives (content options.machine.file.now) most_bytes text → AreSettings options.machine settings
      → IsUnder (option_copied options.events) under → AreStops options.stops.items reasons
      → IsNotFound text settings options under reasons why → IsRefused content are_one options why
  not_paged : IsUnpaged content options why → IsRefused content are_one options why
  unwritten : IsUntold why → IsRefused content are_one options why
  no_room : IsAnyWant why → IsRefused content are_one options why
