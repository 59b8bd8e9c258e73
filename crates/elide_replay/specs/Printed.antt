-- What `elide replay` prints (docs/FORMATS.md, "Printed lines"): the state of the machine that the schedule's steps
-- made of FILE's program, what is asked for of memory, and whether the second run ended alike.
use Rattle.std.specs.Prelude.{◌≡◌, ℕ, false, true, List, [], ◌++◌, Option}
use Rattle.std.specs.Io.KnownBytes.{Appends}
use Rattle.elide_args.specs.declared.subcommand.ReplayOptions.{ReplayOptions}
use Rattle.elide_program.specs.Settings.{has_store_buffer}
use Rattle.tm_model.specs.declared.outcome.Outcome.{Outcome}
use Rattle.tm_model.specs.declared.outcome.Pick.{Pick}
use Rattle.elide_setup.specs.Recorded.{IsRecorded}
use Rattle.tm_schedule.specs.Schedule.{schedule_text}
use Rattle.elide_setup.specs.Schedules.{AreAsked, picks_made, picks_told}
use Rattle.elide_setup.specs.Setup.{IsAsked}
use Rattle.elide_setup.specs.Shown.{IsShownOf, shown_text}
use Rattle.tm_hist.specs.Board.{IsHistory, ShownBoard as Board}
use Rattle.elide_setup.specs.declared.machine.Setup.{Setup}
use Rattle.elide_setup.specs.declared.shown.ShownMemory.{ShownMemory}
use Rattle.elide_setup.specs.Runs.{HasMade}
use Rattle.elide_replay.specs.Replayed.{IsBoardOf}
use Rattle.elide_replay.specs.Told.{agreement_object, agreement_text}
use Rattle.elide_replay.specs.declared.agreement.Agreement.TheVariants.{Agrees}

-- the state, and below it what the second run came to, and above both the lines of aborts with their reasons, where
-- these are asked for; or with `--json`, which does not go with reasons, the object of both runs
pub record IsTold (setup : Setup) (options : ReplayOptions) (board : Board) (before after : Option (List ℕ))
    : Type 0 where
  pub law : IsHistory board
  pub lines : List ℕ
  pub unexplained : options.explains ≡ false → lines ≡ []
  pub memory : ShownMemory
  pub shown : IsShownOf board.machine.memory setup.parts options.machine.shows.items memory
  pub wrote :
      options.is_json ≡ false →
      Appends before after (lines ++ (shown_text board.machine memory ++ agreement_text Agrees))
  pub object :
      options.is_json ≡ true → options.explains ≡ false →
      Appends before after (agreement_object board.machine setup options Agrees)

-- the board is one of the options and of what FILE's content is read as, and made the steps of their schedule; what is
-- recorded is the schedule that their outcomes tell
pub record IsPrinted (content left : List ℕ → Option (List ℕ)) (options : ReplayOptions)
    (before after : Option (List ℕ)) : Type 0 where
  pub setup : Setup
  pub asked : IsAsked (content options.machine.file.now) options.machine setup
  pub board : Board
  pub made : IsBoardOf setup board
  pub steps : List (Pick × Outcome)
  pub stepped : HasMade board steps
  pub scheduled : AreAsked (has_store_buffer options.machine) content options.schedule (picks_made steps)
  pub recorded : IsRecorded left options.record (schedule_text (picks_told steps))
  pub told : IsTold setup options board before after
