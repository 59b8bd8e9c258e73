-- A run that a command makes and records, from its course up to its options.
use Rattle.std.proofs.Common.{◌≡◌, ℕ, Bool, List, [], ◌∷◌, Option, ap, subst}
use Rattle.std.specs.Borrow.{Bor}
use Rattle.elide_args.specs.declared.subcommand.MachineOptions.{MachineOptions}
use Rattle.elide_args.specs.declared.subcommand.ScheduleOptions.{ScheduleOptions}
use Rattle.elide_program.specs.ProgramFile.{IsRead}
use Rattle.elide_program.specs.Settings.{AreSettings, has_store_buffer}
use Rattle.elide_program.specs.declared.file.ProgramFile.{ProgramFile}
use Rattle.elide_program.specs.declared.settings.Settings.{Settings}
use Rattle.tm_model.specs.declared.outcome.Outcome.{Outcome}
use Rattle.tm_model.specs.declared.outcome.Pick.{Pick}
use Rattle.elide_setup.proofs.Records.{recorded_as}
use Rattle.elide_setup.proofs.Schedules.{planned_before}
use Rattle.elide_setup.specs.Made.{HasRun, HasRunCourse, HasRunPlan}
use Rattle.elide_setup.specs.Recorded.{IsRecorded}
use Rattle.elide_setup.specs.Schedules.{AreAsked, AreOf, ArePlanned, form_asked, form_of, picks_made, plan_form}
use Rattle.elide_setup.specs.Schedules.{recorded_text}
use Rattle.elide_setup.specs.Setup.{IsSetup}
use Rattle.elide_setup.specs.declared.machine.Setup.{Setup}
use Rattle.elide_setup.specs.declared.plan.Course.{Course}
use Rattle.elide_setup.specs.declared.plan.Plan.{Plan}
use Rattle.elide_setup.specs.Walks.{Leads, PartsLead}

parts_within : {Maker Within : Type 0} (takes : Within → List (Pick × Outcome) → Within → Type 0)
    (within : Maker → Within) (parts : List (List (Pick × Outcome))) (a b : Maker) →
    PartsLead (λ x steps y. takes (within x) steps (within y)) a parts b →
    PartsLead takes (within a) parts (within b)
parts_within takes within [] a b h = ap within h
parts_within takes within (part ∷ parts) a b h = (within h.0, h.1, parts_within takes within parts h.0 b h.2)

-- steps of what a maker holds
pub leads_within : {Maker Within : Type 0} (takes : Within → List (Pick × Outcome) → Within → Type 0)
    (within : Maker → Within) (steps : List (Pick × Outcome)) (a b : Maker) →
    Leads (λ x made y. takes (within x) made (within y)) a steps b → Leads takes (within a) steps (within b)
leads_within takes within steps a b h = (h.0, h.1, parts_within takes within h.0 a b h.2)

-- the course is that of a plan, and the program that of a file
pub of_course : (content left : List ℕ → Option (List ℕ)) (file : ProgramFile) (settings : Settings) (plan : Plan)
    (path : Option (Bor (List ℕ))) (setup : Setup) (course : Course) → IsSetup file settings setup →
    ((picks : List Pick) → AreOf course picks → ArePlanned content plan picks) → form_of course ≡ plan_form plan →
    HasRunCourse left setup course path → HasRunPlan content left file settings plan path
of_course content left file settings plan path setup course loaded planned listed run = record {
  setup = setup;
  loaded = loaded;
  made = run.made;
  steps = planned (picks_made run.made) run.steps;
  machine = run.machine;
  ran = run.ran;
  recorded = recorded_as (plan_form plan) left path course run.made listed run.steps run.recorded;
}

-- the plan and the settings are those of a command's options, and the file is FILE; no file has changed before
pub of_plan : (content given left : List ℕ → Option (List ℕ)) (options : MachineOptions) (schedule : ScheduleOptions)
    (path : Option (Bor (List ℕ))) (file : ProgramFile) (settings : Settings) (plan : Plan) →
    ((other : List ℕ) → given other ≡ content other) →
    IsRead (content options.file.now) file → AreSettings options settings →
    ((picks : List Pick) → ArePlanned content plan picks
    → AreAsked (has_store_buffer options) content schedule picks) →
    plan_form plan ≡ form_asked (has_store_buffer options) schedule →
    HasRunPlan given left file settings plan path → HasRun content left options schedule path
of_plan content given left options schedule path file settings plan kept read said asked listed run = record {
  setup = run.setup;
  asked = record { file = file; read = read; settings = settings; said = said; made = run.loaded };
  made = run.made;
  steps = asked (picks_made run.made) (planned_before content given plan (picks_made run.made) kept run.steps);
  machine = run.machine;
  ran = run.ran;
  recorded = subst (λ (form : Option Bool). IsRecorded left path (recorded_text form run.made)) listed run.recorded;
}
