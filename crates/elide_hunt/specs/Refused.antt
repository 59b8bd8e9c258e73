-- Why `elide hunt` is refused (docs/FAULTS.md).
use Rattle.std.specs.Prelude.{◌≡◌, ℕ, Bool, All, List, Option, Some, length}
use Rattle.std.specs.Borrow.{Bor}
use Rattle.std.specs.Option.{option_copied}
use Rattle.elide_args.specs.declared.hunt_options.HuntOptions.{HuntOptions}
use Rattle.elide_checks.specs.Checks.{AreChecks}
use Rattle.elide_checks.specs.Reach.{HasCheck}
use Rattle.elide_checks.specs.Refused.{AreNoDemands, AreNoOrders}
use Rattle.elide_checks.specs.declared.demands.Demands.{Demands}
use Rattle.elide_checks.specs.declared.orders.Orders.{Orders}
use Rattle.elide_program.specs.ProgramFile.{IsRead}
use Rattle.elide_program.specs.declared.file.ProgramFile.{ProgramFile}
use Rattle.elide_setup.specs.Refused.{HasNoSetup, IsAnyWant, IsNotPaged, IsOverProgram, IsPageOver, IsUnrecorded}
use Rattle.elide_setup.specs.Refused.{IsUntold}
use Rattle.elide_setup.specs.Setup.{IsAsked}
use Rattle.elide_setup.specs.declared.fault.Fault.TheVariants as fault
use Rattle.elide_setup.specs.declared.fault.Refusal.{Refusal}
use Rattle.elide_setup.specs.declared.fault.Refusal.TheVariants as refusal
use Rattle.elide_setup.specs.declared.machine.Setup.{Setup}
use Rattle.tm_hunt.specs.Attempts.{IsRefusal}
use Rattle.tm_hunt.specs.Deciding.{deciding}
use Rattle.tm_hunt.specs.declared.attempt.HuntFault.{HuntFault}
use Rattle.tm_hunt.specs.declared.attempt.HuntFault.TheVariants as hunt
use Rattle.tm_hunt.specs.declared.searching.Found.{Found}
use Rattle.tm_hunt.specs.declared.searching.Search.{Search}
use Rattle.tm_hunt.specs.declared.trial.Trial.{Trial}
use Rattle.elide_hunt.specs.Printed.{AreOrders, IsSearched, IsTrialOf}

-- ---- the search

-- it tells the fault of a search
abbrev pub IsHuntFault : HuntFault → Refusal → Type 0
IsHuntFault (hunt.Board cause) why = why ≡ refusal.Fault (fault.Board cause)
IsHuntFault hunt.NoMemory why = IsAnyWant why

-- the runs of a trial are not made: a limit of it is out of range, the system starts no thread, or there is no memory
pub data IsNotHunted (trial : Trial) (why : Refusal) : Type 0 where
  not_made : (cause : HuntFault) → IsRefusal trial cause → IsHuntFault cause why → IsNotHunted trial why
  not_shared : why ≡ refusal.Fault fault.NoWorkers → IsNotHunted trial why

-- a program is not searched: a check of the options looks at what the machine does not have, or the runs are not made
pub data IsNoSearch (text : List ℕ) (file : ProgramFile) (options : HuntOptions) (setup : Setup) (orders : Orders)
    (why : Refusal) : Type 0 where
  not_there : (demands : Demands) → AreChecks text file options demands.checks.items
      → ¬ (All (HasCheck setup.program.mem_size (length setup.program.entries)) demands.checks.items)
      → why ≡ refusal.Fault fault.OutOfRange → IsNoSearch text file options setup orders why
  not_hunted : (trial : Trial) → IsTrialOf text file options setup orders trial → IsNotHunted trial why
      → IsNoSearch text file options setup orders why

-- ---- what it came to

-- a run failed whose page is asked for, and what decides of it is not written as one, of the program whose text FILE
-- has
pub record IsUnpaged (content : List ℕ → Option (List ℕ)) (options : HuntOptions) (why : Refusal) : Type 0 where
  pub page : Bor (List ℕ)
  pub asked : options.page ≡ Some page
  pub search : Search
  pub searched : IsSearched content options search
  pub found : Found
  pub failed : search.found ≡ Some found
  pub refused : IsNotPaged searched.asked.read.text options.machine (deciding found.failure) why

-- ---- the command

-- an option is misused, there is no program by the options, no check or no search of it, or what the search came to is
-- not recorded, not shown on a page or not printed
pub data IsRefused (content : List ℕ → Option (List ℕ)) (are_one : List ℕ → List ℕ → Option Bool)
    (options : HuntOptions) (why : Refusal) : Type 0 where
  misordered : AreNoOrders options why → IsRefused content are_one options why
  over_program : IsOverProgram are_one options.record options.machine.file.now why
      → IsRefused content are_one options why
  page_over : IsPageOver are_one options.page options.machine.file.now (option_copied options.record) why
      → IsRefused content are_one options why
  without_program : HasNoSetup content options.machine why → IsRefused content are_one options why
  no_demands : (file : ProgramFile) → IsRead (content options.machine.file.now) file → AreNoDemands file options why
      → IsRefused content are_one options why
  no_search : (setup : Setup) (orders : Orders)
      → (asked : IsAsked (content options.machine.file.now) options.machine setup) → AreOrders options orders
      → IsNoSearch asked.read.text asked.file options setup orders why → IsRefused content are_one options why
  unrecorded : IsUnrecorded options.record why → IsRefused content are_one options why
  unpaged : IsUnpaged content options why → IsRefused content are_one options why
  not_told : IsUntold why → IsRefused content are_one options why
