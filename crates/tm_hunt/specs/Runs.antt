-- How the steps of a run come about.
use Rattle.std.specs.Prelude.{◌≡◌, ◌<◌, ◌↔◌, ℕ, zero, suc, true, List, [], ◌∷◌, ◌++◌, Contains, length}
use Rattle.tm_core.specs.Theorem.{ShownMachine as Machine}
use Rattle.tm_hist.specs.Board.{IsHistory, IsOwedNext, IsStopped, SameBoard, ShownBoard as Board}
use Rattle.tm_hist.specs.Machine.{core_count}
use Rattle.tm_model.specs.Runs.{picks_of}
use Rattle.tm_model.specs.declared.outcome.Outcome.{Outcome}
use Rattle.tm_model.specs.declared.outcome.Pick.{Pick}
use Rattle.tm_pick.specs.Drawn.{AreDrawn}
use Rattle.tm_pick.specs.Kinds.{AreAmong, AreOfKinds}
use Rattle.tm_pick.specs.declared.events.Events.{Events}
use Rattle.tm_pick.specs.declared.kinds.Kinds.{Kinds}
use Rattle.tm_pick.specs.declared.method.Plan.{Plan}

-- these are the cores that have not stopped
abbrev pub AreLeft : Board → List ℕ → Type 0
AreLeft board going = (core : ℕ) → Contains going core ↔ ((core < core_count board.machine) × ¬ (IsStopped board core))

-- the core of the last step, and this one where there is none
abbrev pub last_core : ℕ → List (ℕ × Outcome) → ℕ
last_core core [] = core
last_core core (made ∷ history) = last_core made.0 history

-- one step leads from one board to the other: it is of the pick's core, and its outcome is owed under the pick's event
pub record IsStep (pick : Pick) (before after : Board) : Type 0 where
  pub is_run : IsHistory before
  pub same : SameBoard before after
  pub outcome : Outcome
  pub owed : IsOwedNext pick.event before pick.core outcome
  pub made : after.history ≡ before.history ++ (pick.core, outcome) ∷ []

-- What picks the steps of a run says by `picks` which one it picks next: on a machine, where the last step was of this
-- core, and these cores have not stopped. The step of that pick leads from one board to the other.
pub record IsNext {Steps : Type 0} (picks : Steps → Machine → ℕ → List ℕ → Pick → Steps → Type 0)
    (source next : Steps) (before after : Board) : Type 0 where
  pub going : List ℕ
  pub left : AreLeft before going
  pub pick : Pick
  pub picked : picks source before.machine (last_core 0 before.history) going pick next
  pub step : IsStep pick before after

-- a board has made steps from its first one on, each of them the next one that is picked
pub data AreMade {Steps : Type 0} (picks : Steps → Machine → ℕ → List ℕ → Pick → Steps → Type 0) (first : Steps)
    : Steps → Board → Type 0 where
  none_made : {board : Board} → board.history ≡ [] → AreMade picks first first board
  one_more : {source next : Steps} {before after : Board} → AreMade picks first source before
      → IsNext picks source next before after → AreMade picks first next after

-- The kinds of the events that a run tells of whose steps come under events of these: where stores may be pending, a
-- step that waits for them is a drain.
abbrev pub kinds_told : ℕ → Kinds → Kinds
kinds_told zero kinds = kinds
kinds_told (suc stores) kinds = record kinds { drain = true }

-- the steps of a board tell of events of these kinds, and of drains for which they wait
abbrev pub AreToldOf : Kinds → Board → Type 0
AreToldOf kinds board = AreOfKinds (kinds_told board.limits.stores kinds) (picks_of board.history)

-- all steps of a board are those that are picked from here on, under events of its kinds
pub record AreStepsOf {Steps : Type 0} (picks : Steps → Machine → ℕ → List ℕ → Pick → Steps → Type 0)
    (kinds_of : Steps → Kinds) (first : Steps) (board : Board) : Type 0 where
  pub last : Steps
  pub made : AreMade picks first last board
  pub kinds : AreToldOf (kinds_of first) board

-- the kinds of the events under which the steps of a run are picked: those that are drawn for it, none where it has
-- none, and drains where stores may be pending
abbrev pub AreKindsOf : Events → ℕ → Kinds → Type 0
AreKindsOf events stores kinds = (drawn : Kinds) × AreDrawn events drawn × AreAmong kinds (kinds_told stores drawn)

-- the steps of a board come under such events as these runs do: of their kinds, and none where they have none
abbrev pub AreUnder : Events → Board → Type 0
AreUnder events board = (kinds : Kinds) × AreDrawn events kinds × AreToldOf kinds board

-- What makes runs says by `begins` what picks the steps of the run of a number by a plan, for so many cores of which so
-- many stores each may be pending. All steps of the board are those of the run of this number.
pub record IsOfRun {Steps : Type 0} (begins : Plan → ℕ → ℕ → ℕ → Steps → Type 0)
    (picks : Steps → Machine → ℕ → List ℕ → Pick → Steps → Type 0) (plan : Plan) (run : ℕ) (board : Board)
    : Type 0 where
  pub first : Steps
  pub begun : begins plan run (length board.program.entries) board.limits.stores first
  pub last : Steps
  pub made : AreMade picks first last board
  pub under : AreUnder plan.events board
