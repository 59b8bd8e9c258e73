-- What a run prints: of its steps, and behind what its device held.
use Rattle.std.proofs.Common.{◌≡◌, ℕ, false, List, Option, length, refl, subst}
use Rattle.std.specs.Borrow.{Bor}
use Rattle.std.specs.Io.KnownBytes.{Keeps}
use Rattle.text_out.specs.Writing.{Device}
use Rattle.elide_args.specs.declared.subcommand.RunOptions.{RunOptions}
use Rattle.elide_setup.proofs.Records.{recorded_asked}
use Rattle.elide_setup.proofs.Schedules.{asked_before}
use Rattle.elide_program.specs.Settings.{has_store_buffer}
use Rattle.elide_setup.specs.Recorded.{IsRecorded}
use Rattle.elide_setup.specs.Rounds.{IsAskedOut, IsOut}
use Rattle.elide_setup.specs.Runs.{IsRunOf}
use Rattle.elide_setup.specs.Schedules.{AreAsked, AreOf, form_asked, form_of, picks_made, picks_told, schedule_made}
use Rattle.elide_setup.specs.Setup.{IsAsked}
use Rattle.tm_core.specs.Theorem.{ShownMachine as Machine}
use Rattle.tm_model.specs.declared.outcome.Outcome.{Outcome}
use Rattle.tm_model.specs.declared.outcome.Pick.{Pick}
use Rattle.elide_setup.specs.declared.machine.Setup.{Setup}
use Rattle.elide_setup.specs.declared.opened.Opened.{Opened}
use Rattle.elide_why.proofs.Passing.{kept_first}
use Rattle.elide_run.specs.Printed.{HasStepped, HasSteppedAs, IsRunAsAsked, IsRunOfOptions, IsStepped, trace_text}

-- steps along the course that was opened are a run of the options
abbrev pub run_of_options : (content after left : List ℕ → Option (List ℕ)) (options : RunOptions) (opened : Opened)
    (path : Option (Bor (List ℕ))) (machine : Machine) (made : List (Pick × Outcome))
    → ((other : List ℕ) → after other ≡ content other)
    → IsAsked (after options.machine.file.now) options.machine opened.setup
    → ((picks : List Pick) → AreOf opened.course picks
    → AreAsked (has_store_buffer options.machine) after options.schedule picks)
    → form_of opened.course ≡ form_asked (has_store_buffer options.machine) options.schedule
    → ((cores : ℕ) (steps : List (Pick × Outcome)) → IsOut opened.course cores steps
    → IsAskedOut options.schedule cores steps)
    → path ≡ options.record → AreOf opened.course (picks_made made)
    → IsRunOf opened.setup.program opened.setup.limits made machine
    → IsOut opened.course (length opened.setup.program.entries) made
    → IsRecorded left path (schedule_made opened.course (picks_told made))
    → IsRunOfOptions content left options opened.setup machine
run_of_options content after left options opened path machine made kept asked course listed all given steps ran out
    recorded = record {
      asked =
          subst (λ (text : Option (List ℕ)). IsAsked text options.machine opened.setup) (kept options.machine.file.now)
          asked;
      made = made;
      steps = asked_before (has_store_buffer options.machine) content after options.schedule (picks_made made) kept
          (course (picks_made made) steps);
      ran = ran;
      out = all (length opened.setup.program.entries) made out;
      recorded = recorded_asked left options.record (has_store_buffer options.machine) options.schedule opened.course
          made listed steps
          (subst (λ (path : Option (Bor (List ℕ))). IsRecorded left path
          (schedule_made opened.course (picks_told made))) given recorded);
    }

-- where instructions or reasons are asked for, any text is told of the steps
pub of_stepped : (left : List ℕ → Option (List ℕ)) (options : RunOptions) (opened : Opened)
    (path : Option (Bor (List ℕ))) (before : Device) (machine : Machine) (after : Device) →
    (options.explains ≡ false → options.shows_code ≡ false → ⊥)
    → HasStepped left opened path before machine after → IsStepped left options opened path before machine after
of_stepped left options opened path before machine after never h = record {
  made = h.0;
  steps = h.1;
  ran = h.2;
  lines = h.3;
  traced = λ e f. absurd (never e f);
  wrote = h.4;
  recorded = h.5;
  out = h.6;
}

-- where neither is, the text is that of the outcomes
pub of_traced : (left : List ℕ → Option (List ℕ)) (options : RunOptions) (opened : Opened)
    (path : Option (Bor (List ℕ))) (before : Device) (machine : Machine) (after : Device) →
    HasSteppedAs (trace_text options.traces) left opened path before machine after
    → IsStepped left options opened path before machine after
of_traced left options opened path before machine after h = record {
  made = h.made;
  steps = h.steps;
  ran = h.ran;
  lines = trace_text options.traces h.made;
  traced = λ _ _. refl;
  wrote = h.wrote;
  recorded = h.recorded;
  out = h.out;
}

pub kept_before : (content left : List ℕ → Option (List ℕ)) (options : RunOptions) (setup : Setup) (machine : Machine)
    (first begun ended : Option (List ℕ)) →
    Keeps first begun → IsRunAsAsked content left options setup machine begun ended
    → IsRunAsAsked content left options setup machine first ended
kept_before content left options setup machine first begun ended kept run = record {
  run = run.run;
  lines = run.lines;
  traced = run.traced;
  wrote = kept_first first begun ended run.lines kept run.wrote;
}
