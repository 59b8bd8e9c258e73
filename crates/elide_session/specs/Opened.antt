-- The board that a session begins with, and the plan that it goes along (docs/FORMATS.md, "Debugger").
use Rattle.std.specs.Prelude.{◌≡◌, ◌⊎◌, ⊤, ℕ, Bool, true, false, not, ◌||◌, List, [], Option, is_some}
use Rattle.std.specs.Prelude.{length, min, nat_lt}
use Rattle.symbols.specs.declared.symbol.Symbol.{Symbol}
use Rattle.elide_args.specs.declared.subcommand.MachineOptions.{MachineOptions}
use Rattle.elide_args.specs.declared.subcommand.ScheduleOptions.{ScheduleOptions}
use Rattle.elide_setup.specs.Drawing.{ComeAs, IsDrawn}
use Rattle.ia_image.specs.Program.{ProgramValue as Program}
use Rattle.elide_setup.specs.Rounds.{IsDrawnOut, IsOut}
use Rattle.elide_setup.specs.Runs.{IsRunOf}
use Rattle.elide_setup.specs.Schedules.{AreAsked, AreOf, are_listed, picks_made, picks_told}
use Rattle.elide_setup.specs.Setup.{IsAsked}
use Rattle.tm_core.specs.declared.limits.Limits.{Limits}
use Rattle.tm_core.specs.Theorem.{ShownMachine as Machine}
use Rattle.elide_setup.specs.declared.machine.Setup.{Setup}
use Rattle.elide_setup.specs.declared.plan.Course.{Course}
use Rattle.elide_setup.specs.declared.plan.Course.TheVariants as course
use Rattle.elide_setup.specs.declared.plan.Drawn.{Drawn}
use Rattle.elide_places.specs.FileSymbols.{AreSymbolsOf}
use Rattle.tm_hist.specs.Board.{IsNew, ShownBoard as Board}
use Rattle.tm_model.specs.declared.outcome.Outcome.{Outcome}
use Rattle.tm_model.specs.declared.outcome.Pick.{Pick}

-- the board of the options and of the program that the content of FILE is read as, before its first step and with room
-- for 1,000,000 of them, and that program's symbols
pub record IsOpened (content : Option (List ℕ)) (options : MachineOptions) (board : Board) (symbols : List Symbol)
    : Type 0 where
  pub setup : Setup
  pub asked : IsAsked content options setup
  pub new : IsNew setup.program setup.limits 1000000 board
  pub named : AreSymbolsOf asked.file symbols

-- something is said of a schedule that is drawn
abbrev pub says_draw : ScheduleOptions → Bool
says_draw schedule = is_some schedule.events || is_some schedule.seed || is_some schedule.limit

-- a schedule is asked for
abbrev pub is_scheduled : ScheduleOptions → Bool
is_scheduled schedule = is_some schedule.steps || is_some schedule.path || schedule.in_turn || is_some schedule.random
    || says_draw schedule

-- the most steps of a schedule that is drawn which a session can ask for: those that it makes, and the one that it has
-- no room for
abbrev pub most_drawn : ℕ
most_drawn = 1000001

-- a course of which no more are drawn
abbrev pub limited_course : Course → Course
limited_course (course.Listed listed) = course.Listed listed
limited_course (course.Drawn drawn) = course.Drawn (record drawn { most = min drawn.most most_drawn })

-- these steps are drawn as the options ask, where stores may be pending or not, and so do their events come, to the end
-- or until there are so many
pub record IsLimitedOut (drains : Bool) (options : ScheduleOptions) (cores : ℕ) (steps : List (Pick × Outcome))
    : Type 0 where
  pub drawn : Drawn
  pub asked : IsDrawn drains options drawn
  pub out : IsDrawnOut (not (is_some options.random)) cores (min drawn.most most_drawn) steps
  pub come : ComeAs drawn (picks_made steps)

-- the same of steps of a course that is drawn
abbrev pub IsOutUnder : Course → ℕ → List (Pick × Outcome) → Type 0
IsOutUnder asked cores steps = IsOut asked cores steps × AreOf asked (picks_made steps)

-- no store may be pending on the machine, where the course is drawn
abbrev pub NonePends : Setup → Course → Type 0
NonePends setup (course.Listed listed) = ⊤
NonePends setup (course.Drawn drawn) = (setup.limits.stores ≡ 0) × (drawn.drains ≡ false)

-- stores may be pending on a board's machine
abbrev pub may_pend : Board → Bool
may_pend board = nat_lt 0 board.limits.stores

-- the picks are those that the outcomes of a run from the program's first state tell, whose steps end so
pub record AreDrawn (program : Program) (limits : Limits) (ends : ℕ → List (Pick × Outcome) → Type 0)
    (picks : List Pick) : Type 0 where
  pub steps : List (Pick × Outcome)
  pub last : Machine
  pub ran : IsRunOf program limits steps last
  pub out : ends (length program.entries) steps
  pub told : picks ≡ picks_told steps

-- the picks are those of the schedule that the options ask for, where they are drawn those of a run of the board's
-- program, and there are none where they ask for none; where stores may be pending, those of a run tell of the drains
-- that steps waited for, too
pub record IsPlan (content : List ℕ → Option (List ℕ)) (options : ScheduleOptions) (board : Board) (picks : List Pick)
    : Type 0 where
  pub asked : is_scheduled options ≡ true → (are_listed options ≡ true) ⊎ (board.limits.stores ≡ 0) →
      AreAsked (may_pend board) content options picks
  pub drawn : is_scheduled options ≡ true → are_listed options ≡ false →
      AreDrawn board.program board.limits (IsLimitedOut (may_pend board) options) picks
  pub unasked : is_scheduled options ≡ false → picks ≡ []
