-- What `elide threads` prints (docs/FORMATS.md, "Printed lines"): the state of the machine that the workers' history
-- made of FILE's program, and what is asked for of memory.
use Rattle.std.specs.Prelude.{◌≡◌, ◌*◌, ℕ, false, true, List, [], ◌++◌, length, Option, Some, replicate}
use Rattle.std.specs.Io.KnownBytes.{Appends}
use Rattle.std.specs.Option.{option_copied}
use Rattle.elide_args.specs.declared.subcommand.ThreadsOptions.{ThreadsOptions}
use Rattle.elide_json.specs.Objects.{threads_value}
use Rattle.elide_object.specs.Object.{object_text}
use Rattle.elide_program.specs.Settings.{number_said}
use Rattle.elide_setup.specs.Recorded.{IsRecorded}
use Rattle.tm_schedule.specs.Schedule.{schedule_text}
use Rattle.elide_setup.specs.Setup.{IsAsked}
use Rattle.elide_setup.specs.Shown.{IsShownOf, shown_text}
use Rattle.tm_hist.specs.Board.{IsNew, ShownBoard as Board}
use Rattle.elide_setup.specs.declared.machine.Setup.{Setup}
use Rattle.elide_setup.specs.declared.shown.ShownMemory.{ShownMemory}
use Rattle.tm_model.specs.Runs.{picks_of}
use Rattle.tm_work.specs.Events.{TellDrawn}
use Rattle.tm_work.specs.Seats.{new_part}
use Rattle.tm_work.specs.Workers.{IsReport}
use Rattle.tm_work.specs.declared.plan.EventPlan.{EventPlan}
use Rattle.elide_threads.specs.Plans.{plan_said}

-- a new board of this program and these limits was given to workers, one a core, each with this budget,
-- and came back as this one, with no aborts from outside of the program but by events of this plan
pub record IsWorked (setup : Setup) (budget : ℕ) (plan : EventPlan) (board : Board) : Type 0 where
  pub first : Board
  pub new : IsNew setup.program setup.limits (length setup.program.entries * budget) first
  pub steps : List ℕ
  pub report : IsReport first (replicate (length first.program.entries) budget) board steps
  pub drawn : TellDrawn plan.events (new_part first board)

-- the object of the state and of what is asked for of memory (docs/JSON.md, "threads")
abbrev pub board_object : Board → Setup → ThreadsOptions → List ℕ
board_object board setup options =
    object_text (threads_value board.machine setup.parts options.machine.shows.items)

-- the state, where no counts are asked for in its place, and above it the lines of aborts with their reasons,
-- where these are; or with `--json`, which does not go with reasons, the object of the state
pub record IsTold (options : ThreadsOptions) (setup : Setup) (board : Board) (before after : Option (List ℕ))
    : Type 0 where
  pub lines : List ℕ
  pub unexplained : options.explains ≡ false → lines ≡ []
  pub state :
      options.counts ≡ false → options.is_json ≡ false → (memory : ShownMemory)
      × IsShownOf board.machine.memory setup.parts options.machine.shows.items memory
      × Appends before after (lines ++ shown_text board.machine memory)
  pub object :
      options.counts ≡ false → options.is_json ≡ true → options.explains ≡ false →
      Appends before after (board_object board setup options)

-- of a board that was worked on, of the options and of what FILE's content is read as; the file that the schedule is
-- recorded in is left with the one that came about, whose run is the board's history
pub record IsPrinted (content left : List ℕ → Option (List ℕ)) (options : ThreadsOptions)
    (before after : Option (List ℕ)) : Type 0 where
  pub setup : Setup
  pub asked : IsAsked (content options.machine.file.now) options.machine setup
  pub budget : ℕ
  pub said : number_said (option_copied options.budget) ≡ Some budget
  pub plan : EventPlan
  pub planned : plan_said (option_copied options.events) (option_copied options.seed) ≡ Some plan
  pub board : Board
  pub worked : IsWorked setup budget plan board
  pub recorded : IsRecorded left options.record (schedule_text (picks_of board.history))
  pub told : IsTold options setup board before after
