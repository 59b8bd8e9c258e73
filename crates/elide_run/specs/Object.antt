-- What `elide run --json` prints (docs/JSON.md, "run"): the object of the steps that were made, and of the state of the
-- machine that they made of FILE's program.
use Rattle.std.specs.Prelude.{◌≡◌, ℕ, Bool, not, List, [], ◌∷◌, Option, Some, None, if◌then◌else◌, length}
use Rattle.std.specs.Io.KnownBytes.{Appends}
use Rattle.std.specs.List.{filter, range_with_len}
use Rattle.elide_args.specs.declared.subcommand.RunOptions.{RunOptions}
use Rattle.elide_json.specs.Objects.{run_members}
use Rattle.elide_json.specs.Outcomes.{outcomes_value, run_back, run_value}
use Rattle.elide_object.specs.Object.{object_text}
use Rattle.tm_core.specs.Theorem.{ShownMachine as Machine}
use Rattle.elide_setup.specs.declared.machine.Setup.{Setup}
use Rattle.serde_json.specs.Data.{Members}
use Rattle.elide_run.specs.Halting.{asked_ending, is_stopped}
use Rattle.elide_run.specs.Printed.{IsRunOfOptions}
use Rattle.elide_run.specs.declared.halting.Ending.{Ending}
use Rattle.elide_run.specs.declared.halting.Ending.TheVariants.{AsAsked, RunsOn}

-- the exit status
abbrev pub ending_status : Ending → ℕ
ending_status AsAsked = 0
ending_status RunsOn = 3

-- the cores that have not stopped
abbrev pub running_cores : Machine → List ℕ
running_cores machine = filter (λ core. not (is_stopped machine core)) (range_with_len 0 (length machine.views))

-- where it is expected that all stop
abbrev pub asked_running : Bool → List ℕ → Option (List ℕ)
asked_running expects cores = if expects then Some cores else None

-- `RunsOn` where there is one
abbrev pub cores_ending : List ℕ → Ending
cores_ending [] = AsAsked
cores_ending (core ∷ cores) = RunsOn

-- what stands behind the outcomes of the object
abbrev pub end_members : RunOptions → Setup → Machine → Ending → Members
end_members options setup machine ending =
    run_members machine setup.parts options.machine.shows.items
    (asked_running options.expects_halt (running_cores machine)) (ending_status ending)

-- that was written, and the ending says whether a core has not stopped where all are expected to
pub record IsEnd (options : RunOptions) (setup : Setup) (machine : Machine) (ending : Ending)
    (before after : Option (List ℕ)) : Type 0 where
  pub came_to : ending ≡ asked_ending options.expects_halt machine
  pub wrote : Appends before after (run_back options.traces (end_members options setup machine ending))

-- the object of a run's steps and of the state of its machine was written
pub record IsObjectPrinted (content left : List ℕ → Option (List ℕ)) (options : RunOptions) (ending : Ending)
    (before after : Option (List ℕ)) : Type 0 where
  pub setup : Setup
  pub machine : Machine
  pub run : IsRunOfOptions content left options setup machine
  pub came_to : ending ≡ asked_ending options.expects_halt machine
  pub wrote :
      Appends before after
      (object_text (run_value (outcomes_value options.traces run.made) (end_members options setup machine ending)))
