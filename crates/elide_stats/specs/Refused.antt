-- Why `elide stats` is refused (docs/FAULTS.md).
use Rattle.std.specs.Prelude.{◌≡◌, ℕ, ◌⊎◌, Bool, List, Option, Some, IfSome, length}
use Rattle.std.specs.Borrow.{Bor}
use Rattle.elide_args.specs.declared.subcommand.StatsOptions.{StatsOptions}
use Rattle.elide_program.specs.Settings.{AreSettings, has_store_buffer}
use Rattle.elide_setup.specs.Refused.{IsAnyWant, IsCourseOf, IsNoCore, IsNoMachine, IsNotScheduled, IsOverProgram}
use Rattle.elide_setup.specs.Refused.{IsUnrecorded, IsUntold, NamesNoCore, plan_path}
use Rattle.elide_setup.specs.Schedules.{AreAsked, ArePlanned, listed_in}
use Rattle.elide_setup.specs.Setup.{IsAsked}
use Rattle.tm_core.specs.declared.limits.Limits.{Limits}
use Rattle.tm_core.specs.Theorem.{ShownMachine as Machine}
use Rattle.elide_setup.specs.declared.fault.Refusal.{Refusal}
use Rattle.elide_setup.specs.declared.machine.Setup.{Setup}
use Rattle.elide_setup.specs.declared.plan.Course.{Course}
use Rattle.elide_setup.specs.declared.plan.Plan.{Plan}
use Rattle.tm_model.specs.declared.outcome.Pick.{Pick}
use Rattle.elide_stats.specs.declared.command.Asked.{Asked}

-- a step is not made and counted: the machine has no core of its pick, or there is no memory for its counts
abbrev pub IsUncountedStep : Machine → Pick → Refusal → Type 0
IsUncountedStep machine pick why = IsNoCore machine pick why ⊎ IsAnyWant why

-- the counts of a board's steps are not told: no machine with its limits is made, or their text is not told
abbrev pub AreUntold : Limits → Refusal → Type 0
AreUntold limits why = IsNoMachine limits why ⊎ IsUntold why

-- the steps of a course are not made and counted on a machine of so many cores: a listed one is of another core, their
-- schedule is not written, or there is no memory
pub data IsUncounted (asked : Course) (cores : ℕ) (path : Option (Bor (List ℕ))) (why : Refusal) : Type 0 where
  beyond : NamesNoCore (listed_in asked) cores why → IsUncounted asked cores path why
  unrecorded : IsUnrecorded path why → IsUncounted asked cores path why
  unroomed : IsAnyWant why → IsUncounted asked cores path why

-- of a program and a course: no machine is made, its steps are not counted, or the counts not told
pub data IsNoCount (setup : Setup) (asked : Course) (path : Option (Bor (List ℕ))) (why : Refusal) : Type 0 where
  unmade : IsNoMachine setup.limits why → IsNoCount setup asked path why
  uncounted : IsUncounted asked (length setup.program.entries) path why → IsNoCount setup asked path why
  untold : IsUntold why → IsNoCount setup asked path why

-- there is no program or no schedule by the options, or the same of them
pub data IsNotCounted (content : List ℕ → Option (List ℕ)) (options : StatsOptions) (why : Refusal) : Type 0 where
  unscheduled : IsNotScheduled content options.machine options.schedule why → IsNotCounted content options why
  no_count : (setup : Setup) (asked : Course) → IsAsked (content options.machine.file.now) options.machine setup
      → IsCourseOf (has_store_buffer options.machine) content options.schedule asked
      → IsNoCount setup asked options.record why
      → IsNotCounted content options why

-- or the path of `--record` is that of the program
abbrev pub IsRefused : (List ℕ → Option (List ℕ)) → (List ℕ → List ℕ → Option Bool) → StatsOptions → Refusal → Type 0
IsRefused content are_one options why =
    IsOverProgram are_one options.record options.machine.file.now why ⊎ IsNotCounted content options why

-- the settings, the plan and the path of the record are those of the options
pub record AreOfOptions (asked : Asked) (plan : Plan) : Type 0 where
  pub settings : AreSettings asked.options.now.machine asked.settings
  pub planned :
      (content : List ℕ → Option (List ℕ)) (picks : List Pick) → ArePlanned content plan picks
      → AreAsked (has_store_buffer asked.options.now.machine) content asked.options.now.schedule picks
  pub named : IfSome (plan_path plan) (λ path. asked.options.now.schedule.path ≡ Some path)
  pub recorded : asked.path ≡ asked.options.now.record
