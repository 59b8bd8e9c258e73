-- What `elide run` prints (docs/FORMATS.md, "Printed lines"): the lines of its steps, and below them the state of the
-- machine that these steps made of FILE's program.
use Rattle.std.specs.Prelude.{◌≡◌, ℕ, Bool, false, List, [], ◌++◌, Option, if◌then◌else◌, length}
use Rattle.std.specs.Borrow.{Bor}
use Rattle.std.specs.Io.KnownBytes.{Appends}
use Rattle.std.specs.List.{flat_map}
use Rattle.elide_args.specs.declared.subcommand.RunOptions.{RunOptions}
use Rattle.elide_program.specs.Settings.{has_store_buffer}
use Rattle.elide_setup.specs.Recorded.{IsRecorded}
use Rattle.elide_setup.specs.Rounds.{IsAskedOut, IsOut}
use Rattle.elide_setup.specs.Runs.{IsRunOf}
use Rattle.tm_model.specs.declared.outcome.Outcome.{Outcome}
use Rattle.tm_model.specs.declared.outcome.Pick.{Pick}
use Rattle.elide_setup.specs.Schedules.{AreAsked, AreOf, picks_made, picks_told, schedule_asked, schedule_made}
use Rattle.elide_setup.specs.Setup.{IsAsked}
use Rattle.elide_setup.specs.Shown.{IsShownOf, shown_text}
use Rattle.tm_core.specs.Theorem.{ShownMachine as Machine}
use Rattle.tm_hist.specs.Lines.{outcome_line}
use Rattle.elide_setup.specs.declared.machine.Setup.{Setup}
use Rattle.elide_setup.specs.declared.opened.Opened.{Opened}
use Rattle.text_out.specs.Writing.{Device, Wrote}
use Rattle.elide_setup.specs.declared.shown.ShownMemory.{ShownMemory}
use Rattle.elide_run.specs.Halting.{asked_ending, asked_lines}
use Rattle.elide_run.specs.declared.halting.Ending.{Ending}

-- the lines of outcomes
abbrev pub outcome_lines : List (Pick × Outcome) → List ℕ
outcome_lines steps = flat_map (λ made. outcome_line made.0.core made.1) steps

-- where they are asked for
abbrev pub trace_text : Bool → List (Pick × Outcome) → List ℕ
trace_text traces steps = if traces then outcome_lines steps else []

-- the steps of what was opened were made by the rules, a text was written of them, and the file that the schedule is
-- recorded in is left with theirs
abbrev pub HasStepped : (List ℕ → Option (List ℕ)) → Opened → Option (Bor (List ℕ)) → Device → Machine → Device → Type 0
HasStepped left opened path before machine after =
    (made : List (Pick × Outcome)) × AreOf opened.course (picks_made made)
    × IsRunOf opened.setup.program opened.setup.limits made machine × (text : List ℕ) × Wrote before after text
    × IsRecorded left path (schedule_made opened.course (picks_told made))
    × IsOut opened.course (length opened.setup.program.entries) made

-- the same, where the text is this one of the steps
pub record HasSteppedAs (text : List (Pick × Outcome) → List ℕ) (left : List ℕ → Option (List ℕ)) (opened : Opened)
    (path : Option (Bor (List ℕ))) (before : Device) (machine : Machine) (after : Device) : Type 0 where
  pub made : List (Pick × Outcome)
  pub steps : AreOf opened.course (picks_made made)
  pub ran : IsRunOf opened.setup.program opened.setup.limits made machine
  pub wrote : Wrote before after (text made)
  pub recorded : IsRecorded left path (schedule_made opened.course (picks_told made))
  pub out : IsOut opened.course (length opened.setup.program.entries) made

-- where neither instructions nor reasons are asked for, the text is that of their outcomes
pub record IsStepped (left : List ℕ → Option (List ℕ)) (options : RunOptions) (opened : Opened)
    (path : Option (Bor (List ℕ))) (before : Device) (machine : Machine) (after : Device) : Type 0 where
  pub made : List (Pick × Outcome)
  pub steps : AreOf opened.course (picks_made made)
  pub ran : IsRunOf opened.setup.program opened.setup.limits made machine
  pub lines : List ℕ
  pub traced : options.explains ≡ false → options.shows_code ≡ false → lines ≡ trace_text options.traces made
  pub wrote : Wrote before after lines
  pub recorded : IsRecorded left path (schedule_made opened.course (picks_told made))
  pub out : IsOut opened.course (length opened.setup.program.entries) made

-- the machine is that of the options and of what FILE's content is read as, run by the rules along their schedule, and
-- the file that the schedule is recorded in is left with that of these steps
pub record IsRunOfOptions (content left : List ℕ → Option (List ℕ)) (options : RunOptions) (setup : Setup)
    (machine : Machine) : Type 0 where
  pub asked : IsAsked (content options.machine.file.now) options.machine setup
  pub made : List (Pick × Outcome)
  pub steps : AreAsked (has_store_buffer options.machine) content options.schedule (picks_made made)
  pub ran : IsRunOf setup.program setup.limits made machine
  pub out : IsAskedOut options.schedule (length setup.program.entries) made
  pub recorded :
      IsRecorded left options.record (schedule_asked (has_store_buffer options.machine) options.schedule made)

-- it is so, and the lines of its steps were written; those that tell instructions, or why transactions aborted, are any
pub record IsRunAsAsked (content left : List ℕ → Option (List ℕ)) (options : RunOptions) (setup : Setup)
    (machine : Machine) (before after : Option (List ℕ)) : Type 0 where
  pub run : IsRunOfOptions content left options setup machine
  pub lines : List ℕ
  pub traced : options.explains ≡ false → options.shows_code ≡ false → lines ≡ trace_text options.traces run.made
  pub wrote : Appends before after lines

-- the state and what is asked for of memory was written, and below it, where it is expected that all cores stop, the
-- lines of those that have not, of which the ending tells, too
pub record IsTold (options : RunOptions) (setup : Setup) (machine : Machine) (ending : Ending)
    (before after : Option (List ℕ)) : Type 0 where
  pub memory : ShownMemory
  pub shown : IsShownOf machine.memory setup.parts options.machine.shows.items memory
  pub came_to : ending ≡ asked_ending options.expects_halt machine
  pub wrote : Appends before after (shown_text machine memory ++ asked_lines options.expects_halt machine)

-- both of one machine, the one behind the other
pub record IsPrinted (content left : List ℕ → Option (List ℕ)) (options : RunOptions) (ending : Ending)
    (before after : Option (List ℕ)) : Type 0 where
  pub setup : Setup
  pub machine : Machine
  pub between : Option (List ℕ)
  pub ran : IsRunAsAsked content left options setup machine before between
  pub told : IsTold options setup machine ending between after
