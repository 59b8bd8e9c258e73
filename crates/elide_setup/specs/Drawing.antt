-- What a schedule that is drawn is drawn from (docs/FORMATS.md, "Events that are drawn").
use Rattle.std.specs.Prelude.{◌≡◌, ◌≢◌, ◌&&◌, ◌||◌, not, ℕ, Bool, true, false, List, [], ◌∷◌, ◌++◌, ⊤, All}
use Rattle.std.specs.Prelude.{Option, Some, None, option_and_then, suc, zero}
use Rattle.std.specs.Option.{option_copied}
use Rattle.elide_args.specs.declared.subcommand.ScheduleOptions.{ScheduleOptions}
use Rattle.tm_model.specs.declared.outcome.Event.{Event}
use Rattle.tm_model.specs.declared.outcome.Pick.{Pick}
use Rattle.tm_pick.specs.Kinds.{IsOfKinds}
use Rattle.tm_pick.specs.declared.events.Events.{Events}
use Rattle.tm_pick.specs.declared.events.Events.TheVariants.{Never, Rate, Draw}
use Rattle.elide_program.specs.Settings.{word32}
use Rattle.elide_setup.specs.Events.{events_said}
use Rattle.elide_setup.specs.OwnDrains.{AreOwnDrains, Befalls}
use Rattle.elide_setup.specs.declared.own_drains.OwnDrains.{OwnDrains}
use Rattle.elide_setup.specs.declared.plan.Course.{Course}
use Rattle.elide_setup.specs.declared.plan.Course.TheVariants as course
use Rattle.elide_setup.specs.declared.plan.Drawn.{Drawn}
use Rattle.elide_setup.specs.declared.plan.Plan.{Plan}
use Rattle.elide_setup.specs.declared.plan.Plan.TheVariants as plan

-- the events that are asked for: none, where nothing is said
abbrev pub events_asked : Option (List ℕ) → Option Events
events_asked None = Some Never
events_asked (Some text) = events_said text

-- the seed of `--random`, and none where it is not given
abbrev pub IsSeed : Option (List ℕ) → Option ℕ → Type 0
IsSeed None seed = seed ≡ None
IsSeed (Some text) seed = (word32 text ≡ seed) × (seed ≢ None)

-- What the events are drawn from: the seed of `--random`, with which the cores are drawn, too, and there is no other
-- one; else that of `--seed`, which is given only where events are; else 1.
abbrev pub event_seed_of : Option ℕ → Option (List ℕ) → Option ℕ
event_seed_of None None = Some 1
event_seed_of None (Some text) = word32 text
event_seed_of (Some random) None = Some random
event_seed_of (Some random) (Some text) = None

pub record IsEventSeed (options : ScheduleOptions) (random : Option ℕ) (seed : ℕ) : Type 0 where
  pub said : event_seed_of random (option_copied options.seed) ≡ Some seed
  pub alone : options.events ≡ None → options.seed ≡ None

-- the most steps: those of `--limit`, which are 1 or more, and 1,000,000 where it is not given
abbrev pub some_steps : ℕ → Option ℕ
some_steps zero = None
some_steps (suc most) = Some (suc most)

abbrev pub limit_said : Option (List ℕ) → Option ℕ
limit_said None = Some 1000000
limit_said (Some text) = option_and_then some_steps (word32 text)

-- what is drawn as the options ask, where stores may be pending or not
pub record IsDrawn (drains : Bool) (options : ScheduleOptions) (drawn : Drawn) : Type 0 where
  pub seed : IsSeed (option_copied options.random) drawn.seed
  pub events : events_asked (option_copied options.events) ≡ Some drawn.events
  pub event_seed : IsEventSeed options drawn.seed drawn.event_seed
  pub most : limit_said (option_copied options.limit) ≡ Some drawn.most
  pub may_drain : drawn.drains ≡ drains

-- nothing is drawn: neither the most steps, nor events, nor what they are drawn from
pub record SaysNoDraw (options : ScheduleOptions) : Type 0 where
  pub limit : options.limit ≡ None
  pub events : options.events ≡ None
  pub seed : options.seed ≡ None

-- what is said of a draw is said of a schedule that is drawn
abbrev pub IsAskedDraw : Bool → ScheduleOptions → Plan → Type 0
IsAskedDraw drains options (plan.Steps listed) = SaysNoDraw options
IsAskedDraw drains options (plan.File path) = SaysNoDraw options
IsAskedDraw drains options (plan.Drawn drawn) = IsDrawn drains options drawn

-- the same of a course
abbrev pub IsCourseDraw : Bool → ScheduleOptions → Course → Type 0
IsCourseDraw drains options (course.Listed listed) = SaysNoDraw options
IsCourseDraw drains options (course.Drawn drawn) = IsDrawn drains options drawn

-- an event that may be drawn
abbrev pub IsUnder : Events → Option Event → Type 0
IsUnder Never event = event ≡ None
IsUnder (Rate many kinds) event = IsOfKinds kinds event
IsUnder Draw event = ⊤

-- steps that may be
abbrev pub AreUnder : Events → List Pick → Type 0
AreUnder events picks = All (λ (pick : Pick). IsUnder events pick.event) picks

-- whether some step may come under an event
abbrev pub may_come : Events → Bool
may_come Never = false
may_come (Rate many kinds) = true
may_come Draw = true

-- whether some step may tell of an event: it may come under one, or be a drain
abbrev pub may_tell : Drawn → Bool
may_tell drawn = may_come drawn.events || drawn.drains

-- ---- drains that come besides

-- whether drains are among the events that may be drawn
abbrev pub names_drains : Events → Bool
names_drains Never = false
names_drains (Rate many kinds) = kinds.drain
names_drains Draw = false

-- whether drains come besides: where stores may be pending, and `--events` names none
abbrev pub has_own_drains : Drawn → Bool
has_own_drains drawn = drawn.drains && not (names_drains drawn.events)

-- Picks one behind another, each under an event that may be drawn, or else the drain that comes besides, if any. Those
-- of the next ones are told by this.
pub data AreDrained (seed : Option ℕ) (events : Events) : OwnDrains → List Pick → Type 0 where
  at_first : (own : OwnDrains) → AreOwnDrains seed own → AreDrained seed events own []
  one_more : (own after : OwnDrains) (picks : List Pick) (event : Option Event) (pick : Pick)
      → AreDrained seed events own picks → IsUnder events event → Befalls own pick.core event pick.event after
      → AreDrained seed events after (picks ++ pick ∷ [])

-- picks under events that may be drawn, with drains besides or without
abbrev pub ComeWith : Bool → Option ℕ → Events → List Pick → Type 0
ComeWith false seed events picks = AreUnder events picks
ComeWith true seed events picks = (own : OwnDrains) × AreDrained seed events own picks

-- the events of the picks come as they are drawn
abbrev pub ComeAs : Drawn → List Pick → Type 0
ComeAs drawn picks = ComeWith (has_own_drains drawn) drawn.seed drawn.events picks
