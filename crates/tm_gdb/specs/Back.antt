-- Steps that are taken back, the newest first (gdb manual, appendix E.2, `bs` and `bc`).
use Rattle.std.specs.Prelude.{◌≡◌, ℕ, zero, suc, ◌+◌, ◌≤◌, List, Option, Some, None, Bool, length, if◌then◌else◌}
use Rattle.std.specs.List.{slice_get}
use Rattle.tm_hist.specs.Back.{IsFirst}
use Rattle.tm_hist.specs.Board.{IsHistory, ShownBoard}
use Rattle.tm_model.specs.declared.outcome.Outcome.{Outcome}
use Rattle.tm_gdb.specs.declared.back.Place.{Place}
use Rattle.tm_gdb.specs.declared.stop.Stop.{Stop}
use Rattle.tm_gdb.specs.declared.stop.Stop.TheVariants.{Stepped, Begin, Break, Watch}
use Rattle.tm_gdb.specs.Points.{changed_at, stands_at}
use Rattle.tm_gdb.specs.Values.{TargetValue, moved_core}

-- no step from this place on is of the core
abbrev pub HasNoneFrom : ℕ → List (ℕ × Outcome) → ℕ → Type 0
HasNoneFrom core history place =
    (later : ℕ) → place ≤ later → (outcome : Outcome) → slice_get history later ≡ Some (core, outcome) → ⊥

-- this is the place of the last step of the core
pub record IsLastOf (core : ℕ) (history : List (ℕ × Outcome)) (place : ℕ) : Type 0 where
  pub outcome : Outcome
  pub own : slice_get history place ≡ Some (core, outcome)
  pub others : HasNoneFrom core history (place + 1)

-- a watchpoint at which the core now sees other bytes
abbrev pub watch_or_step : Option ℕ → Stop
watch_or_step (Some address) = Watch address
watch_or_step None = Stepped

-- the steps from the core's last one on are gone, and the board is that of the steps before it
pub record TakesStepBack (core : ℕ) (from : TargetValue) (place : ℕ) (to : TargetValue) : Type 0 where
  pub last : IsLastOf core from.board.history place
  pub first : IsFirst from.board place to.board
  pub law : IsHistory to.board
  pub to_is : to ≡ record from {
    board = to.board;
    selected = core;
    excused = None;
    stop = watch_or_step (changed_at from.watches core from.board.machine to.board.machine);
  }

-- steps are taken back until one of this core is gone; if there is none, nothing is taken back
pub data StepsBack (core : ℕ) (from to : TargetValue) : Type 0 where
  takes : {place : ℕ} → TakesStepBack core from place to → StepsBack core from to
  begins : HasNoneFrom core from.board.history 0
      → to ≡ record from { selected = core; excused = None; stop = Begin } → StepsBack core from to

-- the boards before and behind the step at this place of a history, and the core that made it
pub record IsAgain (board : ShownBoard) (place core : ℕ) (before after : ShownBoard) : Type 0 where
  pub outcome : Outcome
  pub own : slice_get board.history place ≡ Some (core, outcome)
  pub before_is : IsFirst board place before
  pub after_is : IsFirst board (place + 1) after
  pub before_law : IsHistory before
  pub after_law : IsHistory after

-- a watchpoint at which the core sees other bytes, else that it stands at a breakpoint
abbrev pub told_back : Option ℕ → Bool → Option Stop
told_back (Some address) stands = Some (Watch address)
told_back None stands = if stands then Some Break else None

-- what ends a run back when this core's step is taken back
abbrev pub back_told : TargetValue → ℕ → ShownBoard → ShownBoard → Option Stop
back_told from core before after =
    told_back (changed_at from.watches core before.machine after.machine) (stands_at from.breaks before.machine core)

-- where a run back ends, with so many steps still made
pub data EndsBack (from : TargetValue) : ℕ → Place → Type 0 where
  begins : EndsBack from zero (record { made = 0; core = moved_core from; stop = Begin })
  ends : {made core : ℕ} {stop : Stop} {before after : ShownBoard} → IsAgain from.board made core before after
      → back_told from core before after ≡ Some stop
      → EndsBack from (suc made) (record { made = made; core = core; stop = stop })
  goes_on : {made core : ℕ} {place : Place} {before after : ShownBoard} → IsAgain from.board made core before after
      → back_told from core before after ≡ None → EndsBack from made place → EndsBack from (suc made) place

-- the core that is told as standing at a breakpoint is excused
abbrev pub excused_at : ℕ → Stop → Option ℕ
excused_at core Break = Some core
excused_at core _ = None

-- steps are taken back, the newest first, up to where something is told, else to the beginning
pub record RunsBack (from to : TargetValue) : Type 0 where
  pub place : Place
  pub ends_at : EndsBack from (length from.board.history) place
  pub first : IsFirst from.board place.made to.board
  pub law : IsHistory to.board
  pub to_is : to ≡ record from {
    board = to.board;
    selected = place.core;
    excused = excused_at place.core place.stop;
    stop = place.stop;
  }
