-- What a schedule comes to that is run to be counted, and to be watched.
use Rattle.std.specs.Prelude.{◌≡◌, Bool, List, []}
use Rattle.elide_setup.specs.Runs.{IsRunOf}
use Rattle.elide_setup.specs.Schedules.{AreOf, kept_of, picks_made}
use Rattle.tm_core.specs.Theorem.{ShownMachine as Machine}
use Rattle.elide_setup.specs.declared.machine.Setup.{Setup}
use Rattle.elide_setup.specs.declared.plan.Course.{Course}
use Rattle.elide_setup.specs.declared.plan.Course.TheVariants as course
use Rattle.tm_model.specs.declared.outcome.Outcome.{Outcome}
use Rattle.tm_model.specs.declared.outcome.Pick.{Pick}

-- a machine of the program made these steps along the course
pub record IsWatched (setup : Setup) (course : Course) (made : List (Pick × Outcome)) : Type 0 where
  pub steps : AreOf course (picks_made made)
  pub machine : Machine
  pub ran : IsRunOf setup.program setup.limits made machine

-- what is kept of steps that were drawn, where it is asked for; those of a list stand there
abbrev pub IsTally : Setup → Course → Bool → List Pick → Type 0
IsTally setup (course.Listed listed) keeps kept = kept ≡ []
IsTally setup (course.Drawn drawn) keeps kept =
    (made : List (Pick × Outcome)) × IsWatched setup (course.Drawn drawn) made
    × (kept ≡ kept_of (course.Drawn drawn) keeps made)
