-- A run that is made to be counted, and once more to be watched, and its record.
use Rattle.std.proofs.Common.{ℕ, List, Option}
use Rattle.std.specs.Borrow.{Bor}
use Rattle.std.specs.Prelude.{is_some}
use Rattle.tm_model.specs.declared.outcome.Outcome.{Outcome}
use Rattle.tm_model.specs.declared.outcome.Pick.{Pick}
use Rattle.elide_setup.proofs.Records.{recorded_kept}
use Rattle.elide_setup.specs.Made.{HasRunCourse}
use Rattle.elide_setup.specs.Recorded.{IsRecorded}
use Rattle.elide_setup.specs.Schedules.{schedule_made}
use Rattle.elide_setup.specs.declared.machine.Setup.{Setup}
use Rattle.elide_setup.specs.declared.plan.Course.{Course}
use Rattle.elide_setup.specs.declared.plan.Course.TheVariants as course
use Rattle.elide_draw.specs.Watched.{IsTally, IsWatched}

-- the run that was watched, of a list, and that which was counted, of a schedule that is drawn
pub has_run : (left : List ℕ → Option (List ℕ)) (setup : Setup) (asked : Course) (path : Option (Bor (List ℕ)))
    (kept : List Pick) → (made : List (Pick × Outcome)) × IsWatched setup asked made →
    IsTally setup asked (is_some path) kept → IsRecorded left path (schedule_made asked kept) →
    HasRunCourse left setup asked path
has_run left setup (course.Listed listed) path kept watched tally h = record {
  made = watched.0;
  steps = watched.1.steps;
  machine = watched.1.machine;
  ran = watched.1.ran;
  recorded = h;
}
has_run left setup (course.Drawn drawn) path kept watched tally h = record {
  made = tally.0;
  steps = tally.1.steps;
  machine = tally.1.machine;
  ran = tally.1.ran;
  recorded = recorded_kept left path (course.Drawn drawn) tally.0 kept tally.2 h;
}
