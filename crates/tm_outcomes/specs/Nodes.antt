-- The states that a search has met, each as the last step of a schedule that leads there, and the node of the rest.
use Rattle.std.specs.Prelude.{◌≡◌, ◌⊎◌, ℕ, ◌^◌, ◌<◌, List, [], ◌∷◌, ◌++◌, All, Contains, Some, None, length, map}
use Rattle.std.specs.Prelude.{false, slice_get, slice_index_or}
use Rattle.tm_condition.specs.Conditions.{Violates}
use Rattle.tm_condition.specs.declared.check.Check.{Check}
use Rattle.tm_model.specs.declared.outcome.Event.{Event}
use Rattle.tm_model.specs.declared.outcome.Pick.{Pick}
use Rattle.tm_rule.specs.declared.kinds.Stop.{Stop}
use Rattle.tm_outcomes.specs.Links.{IsLink, LiesWithin}
use Rattle.tm_outcomes.specs.Outcomes.{AreTold, Befalls, IsAllowed, IsSparing, trial_opening, trial_setting}
use Rattle.tm_outcomes.specs.Outcomes.{usual_event, value_of}
use Rattle.tm_outcomes.specs.Places.{AreAlike, IsAt}
use Rattle.tm_outcomes.specs.Schedules.{HasEnded, Situation, after_pick, after_schedule}
use Rattle.tm_outcomes.specs.Unseen.{LeadUnseen}
use Rattle.tm_outcomes.specs.Verdicts.{AreSame, HasWaiting, IsStopTold, IsViolationTold, StopsBy, seen_at}
use Rattle.tm_outcomes.specs.declared.findings.Findings.{Findings}
use Rattle.tm_outcomes.specs.declared.links.Link.{Link}
use Rattle.tm_outcomes.specs.declared.nodes.Node.{Node}
use Rattle.tm_outcomes.specs.declared.nodes.NodeState.{NodeState}
use Rattle.tm_outcomes.specs.declared.place.Place.{Place}
use Rattle.tm_outcomes.specs.declared.trial.Trial.{Trial}

abbrev pub parent_at : List Node → ℕ → ℕ
parent_at nodes index = slice_index_or (map (λ (node : Node). node.parent) nodes) index 0

-- the steps that lead to a node from the one before it
abbrev pub steps_at : List Node → ℕ → List Pick
steps_at nodes index = slice_index_or (map (λ (node : Node). node.steps.items) nodes) index []

abbrev pub schedule_at : List (List Pick) → ℕ → List Pick
schedule_at schedules index = slice_index_or schedules index []

-- a step of one of the trial's cores, under what the trial says
pub record IsPickOf (trial : Trial) (pick : Pick) : Type 0 where
  pub is_core : pick.core < length trial.program.now.entries
  pub allowed : IsAllowed trial.events pick.event

-- and under the event that is usual
pub record IsUsualPick (trial : Trial) (pick : Pick) : Type 0 where
  pub is_pick : IsPickOf trial pick
  pub usual : pick.event ≡ usual_event trial.events

-- a schedule that can be run, and has no event without need
abbrev pub HasRun : Trial → List Pick → Type 0
HasRun trial schedule =
    (now : Situation) × (after_schedule (trial_setting trial) (trial_opening trial) schedule ≡ Some now)
    × (now.state.count ≡ length trial.program.now.entries) × IsSparing trial schedule

-- where a schedule leads to, the event of a pick befalls its core
abbrev pub BefallsBehind : Trial → List Pick → Pick → Type 0
BefallsBehind trial schedule pick =
    (now : Situation) → after_schedule (trial_setting trial) (trial_opening trial) schedule ≡ Some now →
    Befalls pick.event (now.state.pending pick.core) (now.state.cores pick.core) (now.doomed pick.core)

-- a pick under the event that is usual, or under one that befalls its core where a schedule leads to
abbrev pub IsNeededBehind : Trial → List Pick → Pick → Type 0
IsNeededBehind trial schedule pick = (pick.event ≡ usual_event trial.events) ⊎ BefallsBehind trial schedule pick

-- wherever it is shown what is shown at the end of a schedule, the next step of a core is under this event what it is
-- under none
abbrev pub IsUntouchedBehind : Trial → List Pick → ℕ → Event → Type 0
IsUntouchedBehind trial schedule core event =
    (end now : Situation) → after_schedule (trial_setting trial) (trial_opening trial) schedule ≡ Some end →
    AreSame trial end now →
    after_pick (trial_setting trial) now (record { core = core; event = Some event })
    ≡ after_pick (trial_setting trial) now (record { core = core; event = None })

-- these are the schedules of the nodes
pub record IsTree (trial : Trial) (nodes : List Node) (schedules : List (List Pick)) : Type 0 where
  pub counted : length schedules ≡ length nodes
  pub some : 0 < length nodes
  pub root : schedule_at schedules 0 ≡ []
  pub lower : (index : ℕ) → 0 < index → index < length nodes → parent_at nodes index < index
  pub longer : (index : ℕ) → 0 < index → index < length nodes →
      schedule_at schedules index ≡ schedule_at schedules (parent_at nodes index) ++ steps_at nodes index
  pub picks : (index : ℕ) → index < length nodes → All (IsPickOf trial) (schedule_at schedules index)
  pub runs : (index : ℕ) → index < length nodes → HasRun trial (schedule_at schedules index)

abbrev pub HaveSchedules : Trial → List Node → Type 0
HaveSchedules trial nodes = (schedules : List (List Pick)) × IsTree trial nodes schedules

-- nodes with their schedules, no more than 32 bits number
pub record AreNodesOf (trial : Trial) (nodes : List Node) : Type 0 where
  pub few : length nodes < 2 ^ 32
  pub tree : HaveSchedules trial nodes

-- a machine at the end of this node's schedule
abbrev pub StandsAtNode : Trial → List Node → Place → ℕ → Type 0
StandsAtNode trial nodes place index =
    (schedules : List (List Pick)) → IsTree trial nodes schedules → IsAt trial place (schedule_at schedules index)

-- there is this node, and the machine stands there
pub record IsNodeState (trial : Trial) (at : NodeState) : Type 0 where
  pub within : at.index < length at.nodes.now
  pub tree : HaveSchedules trial at.nodes.now
  pub here : StandsAtNode trial at.nodes.now at.place.now at.index

-- the steps of the nodes on a way, of which the last one comes first
unfoldable pub steps_along : List Node → List ℕ → List Pick
steps_along nodes [] = []
steps_along nodes (index ∷ way) = steps_along nodes way ++ steps_at nodes index

-- a node that is not the opening one
abbrev pub IsOnWay : ℕ → ℕ → Type 0
IsOnWay count index = (0 < index) × (index < count)

-- ---- states that go on alike

-- the schedule of a node leads to this situation, or to one that goes on alike
pub record LeadsTo (trial : Trial) (schedules : List (List Pick)) (index : ℕ) (now : Situation) : Type 0 where
  pub within : index < length schedules
  pub end : Situation
  pub is_run : after_schedule (trial_setting trial) (trial_opening trial) (schedule_at schedules index) ≡ Some end
  pub same : AreSame trial end now
  pub count : now.state.count ≡ length trial.program.now.entries

-- steps that no other core sees lead from one situation to another, under what the trial says
abbrev pub RestsAt : Trial → Situation → List Pick → Situation → Type 0
RestsAt trial now picks end = LeadUnseen (trial_setting trial) (IsAllowed trial.events) now picks end

-- this node leads to a situation after this pick, and some steps behind it that no other core sees
pub record GoesOnTo (trial : Trial) (schedules : List (List Pick)) (now : Situation) (pick : Pick) (to : ℕ)
    : Type 0 where
  pub next : Situation
  pub is_next : after_pick (trial_setting trial) now pick ≡ Some next
  pub rest : List Pick
  pub end : Situation
  pub rests : RestsAt trial next rest end
  pub leads : LeadsTo trial schedules to end

-- a pick, and then such steps, lead from the one node to the other
abbrev pub LeadsAlong : Trial → List (List Pick) → ℕ → Pick → ℕ → Type 0
LeadsAlong trial schedules from pick to =
    (now : Situation) → LeadsTo trial schedules from now → GoesOnTo trial schedules now pick to

-- there is a link from the node along which the pick leads
pub record IsFollowed (trial : Trial) (schedules : List (List Pick)) (links : List Link) (index : ℕ) (pick : Pick)
    : Type 0 where
  pub to : ℕ
  pub is_link : IsLink links index to
  pub along : LeadsAlong trial schedules index pick to

-- a link along which some pick leads
pub record IsStep (trial : Trial) (schedules : List (List Pick)) (link : Link) : Type 0 where
  pub within : LiesWithin (length schedules) link
  pub pick : Pick
  pub is_pick : IsPickOf trial pick
  pub along : LeadsAlong trial schedules link.from pick link.to

-- a node at which each core has stopped
pub record IsEnd (trial : Trial) (schedules : List (List Pick)) (index : ℕ) : Type 0 where
  pub within : index < length schedules
  pub ended : (now : Situation) → LeadsTo trial schedules index now → HasEnded now.state

-- what is to be found at a node is found
pub record IsShown (trial : Trial) (schedules : List (List Pick)) (found : Findings) (index : ℕ) : Type 0 where
  pub outcome : (now : Situation) → LeadsTo trial schedules index now → HasEnded now.state →
      AreTold found.outcomes.items (map (value_of now.state) trial.items.now)
  pub end : (now : Situation) → LeadsTo trial schedules index now → HasEnded now.state →
      Contains found.ends.items index
  pub stops : (now : Situation) → LeadsTo trial schedules index now → (why : Stop) → Contains trial.stops.now why →
      StopsBy now.state why → IsStopTold found.stops.items why
  pub room : found.waited ≡ false → (now : Situation) → LeadsTo trial schedules index now →
      ¬ HasWaiting (trial_setting trial) now
  pub checks : (now : Situation) → LeadsTo trial schedules index now → HasEnded now.state → (check : ℕ) (what : Check) →
      slice_get trial.checks.now check ≡ Some what → Violates (seen_at now.state) what →
      IsViolationTold found.violations.items check

-- the nodes up to an index are done
pub record IsExplored (trial : Trial) (schedules : List (List Pick)) (links : List Link) (found : Findings) (done : ℕ)
    : Type 0 where
  pub followed : (index : ℕ) → index < done → (pick : Pick) → IsPickOf trial pick →
      IsFollowed trial schedules links index pick
  pub shown : (index : ℕ) → index < done → IsShown trial schedules found index

-- the schedules of a tree that has grown from another
pub record HasGrown (trial : Trial) (nodes : List Node) (before after : List (List Pick)) : Type 0 where
  pub tree : IsTree trial nodes after
  pub more : List (List Pick)
  pub grown : after ≡ before ++ more

-- a node whose machine goes on as this one does
pub record IsFound (trial : Trial) (nodes : List Node) (place : Place) (index : ℕ) : Type 0 where
  pub within : index < length nodes
  pub alike : (schedules : List (List Pick)) → IsTree trial nodes schedules →
      (other : Place) × (IsAt trial other (schedule_at schedules index) × AreAlike place other)
