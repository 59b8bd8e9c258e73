-- What a plan's runs promise of themselves, to those who make no other use of them.
use Rattle.std.specs.Prelude.{◌≡◌, ℕ, List, Bool, false, Contains, IfSome, Option, Some}
use Rattle.tm_core.specs.Theorem.{ShownMachine as Machine}
use Rattle.tm_hist.specs.Board.{ShownBoard as Board}
use Rattle.tm_model.specs.declared.outcome.Pick.{Pick}
use Rattle.tm_pick.specs.Befalls.{IsDrawnEvent}
use Rattle.tm_pick.specs.Begun.{AreCoresOf, AreEventsOf}
use Rattle.tm_pick.specs.Choices.{IsPicked}
use Rattle.tm_pick.specs.Drains.{AreDrainsOf, IsDrained}
use Rattle.tm_pick.specs.Drawn.{AreDrawn}
use Rattle.tm_pick.specs.Kinds.{IsOfKinds}
use Rattle.tm_pick.specs.Shown.{Picks}
use Rattle.tm_pick.specs.Sources.{is_listed}
use Rattle.tm_pick.specs.Turns.{IsInTurn}
use Rattle.tm_pick.specs.declared.lot.Lot.{Lot}
use Rattle.tm_pick.specs.declared.method.Plan.{Plan}
use Rattle.tm_hunt.specs.Runs.{IsOfRun}

-- a step of a core that has not stopped, under an event of the kinds that may come; round by round it is the one whose
-- turn it is. By chance the core is the one that is drawn next, by what is heeded of the core of the step before, and
-- the event too.
pub record PicksNext (before : Picks) (machine : Machine) (last : ℕ) (going : List ℕ) (pick : Pick) (after : Picks)
    : Type 0 where
  pub among : Contains going pick.core
  pub event : IsOfKinds before.kinds pick.event
  pub same : after.kinds ≡ before.kinds
  pub in_turn : IfSome before.turn (λ last. IsInTurn last going pick.core)
  pub goes_on : IfSome before.turn (λ last. after.turn ≡ Some (Some pick.core))
  pub heeded : Bool
  pub drawn : IsPicked heeded before.manner going pick.core after.manner
  pub befalls : is_listed before.manner ≡ false → IsDrawnEvent before.lot pick.event after.lot

-- what picks the steps of a planned run, and by what it is drawn which of them are drains, where stores may be pending
pub record PlannedPicks : Type 0 where
  pub picks : Picks
  pub drains : Option Lot

-- a step that is picked so, which is a drain instead where one is drawn and it comes under no event
pub record PicksOrDrains (before : PlannedPicks) (machine : Machine) (last : ℕ) (going : List ℕ) (pick : Pick)
    (after : PlannedPicks) : Type 0 where
  pub picked : Pick
  pub next : PicksNext before.picks machine last going picked after.picks
  pub core : pick.core ≡ picked.core
  pub drained : IsDrained picked.event before.drains pick.event after.drains

-- the first picks come under the events of the plan, and what they and their drains are drawn by is that of the run of
-- this number
pub record BeginsByPlan (plan : Plan) (number cores stores : ℕ) (first : PlannedPicks) : Type 0 where
  pub kinds : AreDrawn plan.events first.picks.kinds
  pub cores_drawn : AreCoresOf plan number cores first.picks.manner
  pub events_drawn : AreEventsOf plan.events plan.seed number first.picks.lot
  pub drains_drawn : AreDrainsOf stores plan.seed number first.drains

-- a board of the run of this number that a plan draws
abbrev pub IsPlannedRun : Plan → ℕ → Board → Type 0
IsPlannedRun plan run board = IsOfRun BeginsByPlan PicksOrDrains plan run board
