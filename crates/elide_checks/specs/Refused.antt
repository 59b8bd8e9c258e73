-- Why what is to be checked, and what is asked of a search, is not read (docs/FAULTS.md).
use Rattle.std.specs.Prelude.{◌≡◌, ◌≢◌, ℕ, ◌⊎◌, false, List, [], codes, Contains, None}
use Rattle.std.specs.Borrow.{Bor}
use Rattle.std.specs.Option.{option_copied}
use Rattle.elide_args.specs.declared.hunt_options.HuntOptions.{HuntOptions}
use Rattle.elide_program.specs.declared.file.ProgramFile.{ProgramFile}
use Rattle.elide_program.specs.Settings.{number_said}
use Rattle.elide_setup.specs.Faults.{want}
use Rattle.elide_setup.specs.Jobs.{AreNoJobs}
use Rattle.elide_setup.specs.Misuse.{IsMisuse}
use Rattle.tm_hist.specs.Lines.{stop_word}
use Rattle.elide_setup.specs.declared.fault.Refusal.{Refusal}
use Rattle.tm_rule.specs.declared.kinds.Stop.{Stop}
use Rattle.elide_checks.specs.Constants.{is_constant}
use Rattle.elide_checks.specs.Misread.{IsNoCondition, IsNoEndCondition}
use Rattle.elide_checks.specs.Runs.{AreNoRuns, IsNoLimit, IsNoMethod, events_asked}

-- a text is none by a rule, and the option of this name is told for it; or there is no memory
abbrev pub IsMisreadText : Type 0 → List ℕ → Refusal → Type 0
IsMisreadText Rule name why = (Rule × IsMisuse name why) ⊎ (why ≡ want)

-- one of these texts is none
pub record HasMisreadText (Rule : List ℕ → Type 0) (texts : List (Bor (List ℕ))) (name : List ℕ) (why : Refusal)
    : Type 0 where
  pub text : Bor (List ℕ)
  pub among : Contains texts text
  pub none : Rule text.now
  pub named : IsMisuse name why

-- one of the texts of `--check` or of `--forbid` is none, or there is no memory
pub data AreMisreadTexts (Rule : List ℕ → Type 0) (demands forbids : List (Bor (List ℕ))) (why : Refusal) : Type 0 where
  no_check : HasMisreadText Rule demands (codes "--check") why → AreMisreadTexts Rule demands forbids why
  no_forbid : HasMisreadText Rule forbids (codes "--forbid") why → AreMisreadTexts Rule demands forbids why
  no_memory : why ≡ want → AreMisreadTexts Rule demands forbids why

-- of the ends of all schedules: it is no condition on a machine alone, of the program that a text is read as
abbrev pub AreNoChecks : List ℕ → ProgramFile → List (Bor (List ℕ)) → List (Bor (List ℕ)) → Refusal → Type 0
AreNoChecks text file demands forbids why =
    AreMisreadTexts (IsNoEndCondition file (is_constant text file)) demands forbids why

-- the word of no reason to stop, as one of `--stop`
pub record IsNoStop (words : List (Bor (List ℕ))) (why : Refusal) : Type 0 where
  pub word : Bor (List ℕ)
  pub among : Contains words word
  pub other : (stop : Stop) → stop_word stop ≢ word.now
  pub named : IsMisuse (codes "--stop") why

-- of a search for a bad schedule, of which one check is wanted at least: it is no condition
pub data AreNoDemands (file : ProgramFile) (options : HuntOptions) (why : Refusal) : Type 0 where
  no_checks : AreMisreadTexts (IsNoCondition file) options.checks.items options.forbids.items why
      → AreNoDemands file options why
  no_stop : IsNoStop options.stops.items why → AreNoDemands file options why
  none : options.checks.items ≡ [] → options.forbids.items ≡ [] → options.stops.items ≡ []
      → options.expects_halt ≡ false → IsMisuse (codes "--check") why → AreNoDemands file options why

-- an option of such a search is misread, which is named
pub data AreNoOrders (options : HuntOptions) (why : Refusal) : Type 0 where
  bad_runs : AreNoRuns (option_copied options.runs) → IsMisuse (codes "--runs") why → AreNoOrders options why
  bad_seed : number_said (option_copied options.seed) ≡ None → IsMisuse (codes "--seed") why → AreNoOrders options why
  bad_method : IsNoMethod (option_copied options.method) → IsMisuse (codes "--method") why → AreNoOrders options why
  bad_events : events_asked (option_copied options.events) ≡ None → IsMisuse (codes "--events") why
      → AreNoOrders options why
  bad_limit : IsNoLimit (option_copied options.limit) → IsMisuse (codes "--limit") why → AreNoOrders options why
  bad_jobs : AreNoJobs (option_copied options.jobs) → IsMisuse (codes "--jobs") why → AreNoOrders options why
