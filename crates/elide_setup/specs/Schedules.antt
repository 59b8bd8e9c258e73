-- What a command's schedule states: the picks of the steps that it lists, each a core and the event that its step comes
-- under, or none.
use Rattle.std.specs.Prelude.{◌≡◌, ℕ, Bool, ◌||◌, List, [], map, Option, Some, None, IfSome, Ok, is_some}
use Rattle.std.specs.Prelude.{if◌then◌else◌, length}
use Rattle.elide_args.specs.declared.subcommand.ScheduleOptions.{ScheduleOptions}
use Rattle.tm_schedule.specs.Schedule.{drawn_text, schedule_of, schedule_text, steps_of}
use Rattle.tm_model.specs.declared.outcome.Outcome.{Outcome}
use Rattle.tm_model.specs.declared.outcome.Pick.{Pick}
use Rattle.tm_model.specs.Runs.{picks_of}
use Rattle.elide_setup.specs.Drawing.{ComeAs, IsDrawn, may_tell}
use Rattle.elide_setup.specs.Owing.{history_made}
use Rattle.elide_setup.specs.declared.plan.Course.{Course}
use Rattle.elide_setup.specs.declared.plan.Course.TheVariants as course
use Rattle.elide_setup.specs.declared.plan.Drawn.{Drawn}
use Rattle.elide_setup.specs.declared.plan.Plan.{Plan}
use Rattle.elide_setup.specs.declared.plan.Plan.TheVariants as plan

-- the events of the picks come as the options ask of a schedule that is drawn
pub record ComeAsAsked (drains : Bool) (options : ScheduleOptions) (picks : List Pick) : Type 0 where
  pub drawn : Drawn
  pub asked : IsDrawn drains options drawn
  pub come : ComeAs drawn picks

-- the picks are those of `--steps`, and those of the schedule that the file at `--schedule` holds, where its content is
-- known (docs/FORMATS.md, "Schedules"); of a schedule that is drawn, whose cores nothing is said of, the events come as
-- the options ask, where stores may be pending or not
pub record AreAsked (drains : Bool) (content : List ℕ → Option (List ℕ)) (options : ScheduleOptions)
    (picks : List Pick) : Type 0 where
  pub steps : IfSome options.steps (λ text. steps_of text.now ≡ Ok picks)
  pub file : IfSome options.path (λ path. IfSome (content path.now) (λ text. schedule_of text ≡ Ok picks))
  pub drawn : options.steps ≡ None → options.path ≡ None → ComeAsAsked drains options picks

-- the same of a plan that was read
abbrev pub ArePlanned : (List ℕ → Option (List ℕ)) → Plan → List Pick → Type 0
ArePlanned content (plan.Steps listed) picks = picks ≡ listed.items
ArePlanned content (plan.File path) picks = IfSome (content path.now) (λ text. schedule_of text ≡ Ok picks)
ArePlanned content (plan.Drawn drawn) picks = ComeAs drawn picks

-- the same of a course
abbrev pub AreOf : Course → List Pick → Type 0
AreOf (course.Listed listed) picks = picks ≡ listed.items
AreOf (course.Drawn drawn) picks = ComeAs drawn picks

-- whether the steps are a list: those of `--steps` and of a file are one
abbrev pub are_listed : ScheduleOptions → Bool
are_listed options = is_some options.steps || is_some options.path

-- how a schedule is recorded: a list by its own steps; one that is drawn by whether its steps may tell of events
abbrev pub form_of : Course → Option Bool
form_of (course.Listed listed) = None
form_of (course.Drawn drawn) = Some (may_tell drawn)

-- the same of a plan that was read
abbrev pub plan_form : Plan → Option Bool
plan_form (plan.Steps listed) = None
plan_form (plan.File path) = None
plan_form (plan.Drawn drawn) = Some (may_tell drawn)

-- the same as the options ask, on a machine whose stores may be pending or not
abbrev pub form_asked : Bool → ScheduleOptions → Option Bool
form_asked drains options = if are_listed options then None else Some (is_some options.events || drains)

-- its list, which is empty where it is drawn
abbrev pub listed_in : Course → List Pick
listed_in (course.Listed listed) = listed.items
listed_in (course.Drawn drawn) = []

-- how many steps it has at most
abbrev pub most_of : Course → ℕ
most_of (course.Listed listed) = length listed.items
most_of (course.Drawn drawn) = drawn.most

-- the picks of steps that were made, each with what it came to
abbrev pub picks_made : List (Pick × Outcome) → List Pick
picks_made steps = map (λ made. made.0) steps

-- a step of this core under no event
abbrev pub lone_pick : ℕ → Pick
lone_pick core = record { core = core; event = None }

-- each with the event that its outcome tells, and none where that aborted nothing
abbrev pub picks_told : List (Pick × Outcome) → List Pick
picks_told steps = picks_of (history_made steps)

-- the picks that are kept of steps: of those that are drawn, where they are asked for, all that were made, as their
-- outcomes tell them; those of a list stand there
abbrev pub kept_of : Course → Bool → List (Pick × Outcome) → List Pick
kept_of (course.Listed listed) keeps steps = []
kept_of (course.Drawn drawn) keeps steps = if keeps then picks_told steps else []

-- the text of the schedule that came about: that of the list, or of the steps that were drawn
abbrev pub schedule_made : Course → List Pick → List ℕ
schedule_made (course.Listed listed) drawn_steps = schedule_text listed.items
schedule_made (course.Drawn drawn) drawn_steps = drawn_text (may_tell drawn) drawn_steps

-- the same of steps that were made, by how it is recorded
abbrev pub recorded_text : Option Bool → List (Pick × Outcome) → List ℕ
recorded_text None steps = schedule_text (picks_made steps)
recorded_text (Some has_events) steps = drawn_text has_events (picks_told steps)

-- the same as the options ask
abbrev pub schedule_asked : Bool → ScheduleOptions → List (Pick × Outcome) → List ℕ
schedule_asked drains options steps = recorded_text (form_asked drains options) steps
