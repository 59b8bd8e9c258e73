-- What a machine promises. It stands for a state of one flat memory, with the stores of each core that are not in it
-- yet and with its doomed cores, and so it does after each step: the step is one of memory as its core sees it, on
-- which each committed transaction ran alone at its XEND (SDM volume 1, 16.2.1) with no store pending, or it is a
-- drain, and it has the outcome that is owed. What each of these words means stands in tm_model.
use Rattle.std.specs.Prelude.{◌≡◌, ℕ, zero, suc, ◌<◌, List, [], ◌∷◌, ◌++◌, All, length, slice_index_or, Option, Some}
use Rattle.std.specs.Prelude.{None, MatchOption}
use Rattle.ia_image.specs.Program.{ProgramValue as Program}
use Rattle.tm_rule.specs.declared.kinds.Stop.{Stop}
use Rattle.tm_sets.specs.declared.interface.Kind.{Kind}
use Rattle.tm_sets.specs.declared.interface.Kind.TheVariants.{Read, Write}
use Rattle.tm_model.specs.Access.{Lines}
use Rattle.tm_model.specs.Conflicts.{Doomed, doomed_after}
use Rattle.tm_model.specs.Runs.{AreOwed, IsOwedUnder, TellNoAbort, doomed_at_end}
use Rattle.tm_model.specs.Setting.{Setting, setting_of}
use Rattle.tm_model.specs.Shown.{View, ViewsStandFor, body_alone, view_outside, view_with_body}
use Rattle.tm_model.specs.State.{Pending, State, opening_state, seen_memory}
use Rattle.tm_model.specs.Steps.{run, step}
use Rattle.tm_core.specs.Types.{AtStop, Begun, Committed, Condemned, CoreState, Event, Inside, Mid, Open, Outcome}
use Rattle.tm_core.specs.Types.{Plain, Regs, Running}
use Rattle.tm_model.specs.Went.{StateWithBodies, opening_with_bodies, run_with_bodies}

-- ---- what is shown

-- what contracts see of a machine
pub record ShownMachine : Type 0 where
  pub code : List ℕ
  pub base : ℕ  -- the address of the first byte of the code
  pub read_lines : ℕ  -- the most lines of a read set
  pub write_lines : ℕ  -- the most lines of a write set
  pub store_buffer : ℕ  -- the most stores of a core that are pending
  pub memory : List ℕ
  pub views : List View  -- of each core
  pub pending : List Pending  -- of each core, the oldest store first; where none may be, the list is empty

abbrev pub machine_setting : ShownMachine → Setting
machine_setting machine =
    setting_of machine.code machine.base (length machine.memory) machine.read_lines machine.write_lines
    machine.store_buffer

-- where there is no such core
abbrev pub no_regs : Regs
no_regs = record { gpr = []; flags = record { 0 = 0 }; eip = 0 }

abbrev pub view_at : ShownMachine → ℕ → View
view_at machine number = slice_index_or machine.views number (view_outside Running no_regs)

-- the stores of a core that are pending
abbrev pub pending_at : ShownMachine → ℕ → Pending
pending_at machine number = slice_index_or machine.pending number []

-- memory as a core sees it
abbrev pub seen_at : ShownMachine → ℕ → List ℕ
seen_at machine number = seen_memory machine.memory (pending_at machine number)

abbrev pub lines_shown : View → Kind → Lines
lines_shown view Read = view.reads
lines_shown view Write = view.writes

-- ---- a step

-- the machine stands for a state and its doomed cores
abbrev pub StandsFor : ShownMachine → State → Doomed → Type 0
StandsFor machine state doomed =
    ViewsStandFor (machine_setting machine) (length machine.views) machine.memory (view_at machine) (pending_at machine)
    state doomed

-- a step of the core of this number under an event, or under none, is owed and allowed, and the machine then stands for
-- what follows
pub record TakesStepUnder (event : Option Event) (before after : ShownMachine) (state : State) (doomed : Doomed)
    (number : ℕ) (outcome : Outcome) : Type 0 where
  pub is_owed : IsOwedUnder event (machine_setting before) state doomed number outcome
  pub next : State
  pub is_step : step (machine_setting before) state number outcome ≡ Some next
  pub stands : StandsFor after next (doomed_after (machine_setting before) state doomed number outcome)

-- The same under no event: each abort has its cause in the program, and a store reaches memory where the step waits for
-- that.
abbrev pub TakesStep : ShownMachine → ShownMachine → State → Doomed → ℕ → Outcome → Type 0
TakesStep before after state doomed number outcome = TakesStepUnder None before after state doomed number outcome

-- the same of a history, the steps, each a core and its outcome, under the events that its outcomes tell of
pub record TakesSteps (before after : ShownMachine) (state : State) (doomed : Doomed) (history : List (ℕ × Outcome))
    : Type 0 where
  pub are_owed : AreOwed (machine_setting before) state doomed history
  pub last : State
  pub is_run : run (machine_setting before) state history ≡ Some last
  pub stands : StandsFor after last (doomed_at_end (machine_setting before) state doomed history)

-- what no step changes
pub record SameMachine (before after : ShownMachine) : Type 0 where
  pub rules : machine_setting after ≡ machine_setting before
  pub cores : length after.views ≡ length before.views

-- a machine that began at start is now what this history made of it
pub record IsRun (start now : ShownMachine) (state : State) (doomed : Doomed) (history : List (ℕ × Outcome))
    : Type 0 where
  pub same : SameMachine start now
  pub takes : TakesSteps start now state doomed history

-- ---- several steps at once

-- each step is allowed, and owed under no event: each abort has its cause in the program, and a store reaches memory
-- where the step waits for that
abbrev pub AreOwedAlone : Setting → State → Doomed → List (ℕ × Outcome) → Type 0
AreOwedAlone setting state doomed [] = Unit {0}
AreOwedAlone setting state doomed (taken ∷ history) =
    IsOwedUnder None setting state doomed taken.0 taken.1
    × MatchOption (step setting state taken.0 taken.1) ⊥
    (λ next. AreOwedAlone setting next (doomed_after setting state doomed taken.0 taken.1) history)

-- no core that has stopped goes on
abbrev pub StayStopped : ShownMachine → ShownMachine → Type 0
StayStopped before after = (other : ℕ) (stop : Stop) → other < length before.views →
    (view_at before other).mode ≡ AtStop stop → (view_at after other).mode ≡ AtStop stop

-- from each state that the machine stands for it takes these steps, each owed under no event and none told as an abort
-- from outside of the program, so that a run goes on with them; no core that has stopped goes on
pub record TakesAll (before after : ShownMachine) (history : List (ℕ × Outcome)) : Type 0 where
  pub same : SameMachine before after
  pub tells : TellNoAbort history
  pub takes : (state : State) (doomed : Doomed) → StandsFor before state doomed →
      TakesSteps before after state doomed history
  pub alone : (state : State) (doomed : Doomed) → StandsFor before state doomed →
      AreOwedAlone (machine_setting before) state doomed history
  pub runs : (start : ShownMachine) (state : State) (doomed : Doomed) (earlier : List (ℕ × Outcome)) →
      IsRun start before state doomed earlier → IsRun start after state doomed (earlier ++ history)
  pub stops : StayStopped before after

-- so many steps of the core of this number alone
abbrev pub TakesAlone : ShownMachine → ShownMachine → ℕ → ℕ → Type 0
TakesAlone before after number count =
    (history : List (ℕ × Outcome)) × (length history ≡ count) × All (λ (made : ℕ × Outcome). made.0 ≡ number) history
    × TakesAll before after history

-- so many instructions outside of transactions
abbrev pub plain_steps : ℕ → ℕ → List (ℕ × Outcome)
plain_steps number zero = []
plain_steps number (suc count) = plain_steps number count ++ (number, Plain) ∷ []

-- an XBEGIN that opens a transaction, and so many instructions behind it (SDM volume 1, 16.3.5)
abbrev pub steps_inside : ℕ → ℕ → List (ℕ × Outcome)
steps_inside number zero = (number, Begun) ∷ []
steps_inside number (suc count) = steps_inside number count ++ (number, Inside) ∷ []

-- the same, and the XEND that commits it
abbrev pub transaction_of : ℕ → ℕ → List (ℕ × Outcome)
transaction_of number count = steps_inside number count ++ (number, Committed) ∷ []

-- ---- transactions as they went

-- the depth of a condemned core: the machine's mark of one that is doomed
abbrev pub condemned_depth : CoreState → Option ℕ
condemned_depth Running = None
condemned_depth Mid = None
condemned_depth (Open depth) = None
condemned_depth (Condemned depth) = Some depth
condemned_depth (AtStop stop) = None

-- A machine's history from a program's start, with the bodies as they went at their own cores' steps: what it shows
-- of each core is of this body, and where the core is not condemned, this is its body run by itself on memory as its
-- core sees it now.
pub record WentWithBodies (start now : ShownMachine) (program : Program) (history : List (ℕ × Outcome)) : Type 0 where
  pub end : StateWithBodies
  pub goes : run_with_bodies (machine_setting start) (opening_with_bodies program) history ≡ Some end
  pub memory : now.memory ≡ end.state.memory
  pub count : length now.views ≡ end.state.count
  pub shows : (number : ℕ) → number < length now.views →
      view_with_body (machine_setting start) (end.state.cores number) (end.bodies number)
      (condemned_depth (view_at now number).mode)
      ≡ Some (view_at now number)
  pub by_itself : (number : ℕ) → number < length now.views → condemned_depth (view_at now number).mode ≡ None →
      end.bodies number ≡ body_alone (machine_setting start) (seen_at now number) (end.state.cores number)
  pub same_run : run (machine_setting start) (opening_state program) history ≡ Some end.state

-- whatever the program and the history
abbrev pub TransactionsAsTheyWent : Type 0
TransactionsAsTheyWent =
    (start now : ShownMachine) (program : Program) (history : List (ℕ × Outcome)) →
    StandsFor start (opening_state program) (λ _. None) →
    IsRun start now (opening_state program) (λ _. None) history →
    WentWithBodies start now program history
