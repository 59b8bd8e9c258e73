-- A search while it goes on.
use Rattle.std.specs.Prelude.{◌≡◌, ◌≢◌, ℕ, ◌<◌, ◌≤◌, Bool, true, false, List, ◌++◌, All, Option, Some, None}
use Rattle.std.specs.Prelude.{IfSome, length}
use Rattle.std.specs.List.{AllPairs}
use Rattle.tm_model.specs.declared.outcome.Event.{Event}
use Rattle.tm_model.specs.declared.outcome.Pick.{Pick}
use Rattle.tm_outcomes.specs.Links.{IsLink}
use Rattle.tm_outcomes.specs.Marks.{AreMarks, IsMarked, unmarked}
use Rattle.tm_outcomes.specs.Nodes.{HasGrown, IsEnd, IsExplored, IsFollowed, IsPickOf, IsShown, IsStep, IsTree}
use Rattle.tm_outcomes.specs.Nodes.{schedule_at}
use Rattle.tm_outcomes.specs.Outcomes.{AreDistinct, AreUsual, IsAllowed, IsTold, trial_opening, trial_setting}
use Rattle.tm_outcomes.specs.Places.{IsAt}
use Rattle.tm_outcomes.specs.Schedules.{HasEnded, Situation, after_schedule}
use Rattle.tm_outcomes.specs.Verdicts.{HasWaited, IsStop, IsViolation, LeadsBack}
use Rattle.tm_outcomes.specs.Written.{IsPlaceIn, KeepsNoted}
use Rattle.tm_outcomes.specs.declared.cycle.Cycle.{Cycle}
use Rattle.tm_outcomes.specs.declared.findings.Findings.{Findings}
use Rattle.tm_outcomes.specs.declared.links.Link.{Link}
use Rattle.tm_outcomes.specs.declared.nodes.Node.{Node}
use Rattle.tm_outcomes.specs.declared.place.Place.{Place}
use Rattle.tm_outcomes.specs.declared.searching.Search.{Search}
use Rattle.tm_outcomes.specs.declared.searching.Searching.{Searching}
use Rattle.tm_outcomes.specs.declared.stops.ReachedStop.{ReachedStop}
use Rattle.tm_outcomes.specs.declared.stuck.Stuck.{Stuck}
use Rattle.tm_outcomes.specs.declared.trial.Trial.{Trial}
use Rattle.tm_outcomes.specs.declared.verdict.Verdict.{Verdict}
use Rattle.tm_outcomes.specs.declared.violations.Violation.{Violation}
use Rattle.tm_outcomes.specs.declared.written.Written.{Written}

-- stops that were looked for and found, each once
pub record AreStops (trial : Trial) (stops : List ReachedStop) : Type 0 where
  pub told : All (IsStop trial) stops
  pub once : AllPairs (λ one other. one.why ≢ other.why) stops

-- checks that ends violate, each once
pub record AreViolations (trial : Trial) (violations : List Violation) : Type 0 where
  pub told : All (IsViolation trial) violations
  pub once : AllPairs (λ one other. one.check ≢ other.check) violations

-- what was found is so, and is found once
pub record AreFindings (trial : Trial) (found : Findings) : Type 0 where
  pub told : All (IsTold trial) found.outcomes.items
  pub once : AreDistinct found.outcomes.items
  pub stops : AreStops trial found.stops.items
  pub violations : AreViolations trial found.violations.items
  pub waited : found.waited ≡ true → HasWaited trial

-- at one node more all is found, and nothing is lost
pub record Shows (trial : Trial) (schedules : List (List Pick)) (before after : Findings) (index : ℕ) : Type 0 where
  pub shown : IsShown trial schedules after index
  pub ends : All (IsEnd trial schedules) before.ends.items → All (IsEnd trial schedules) after.ends.items
  pub kept : (other : ℕ) → IsShown trial schedules before other → IsShown trial schedules after other

-- the nodes up to this index are done, with these schedules
pub record IsSearching (trial : Trial) (most : ℕ) (search : Searching) (schedules : List (List Pick)) (done : ℕ)
    : Type 0 where
  pub tree : IsTree trial search.nodes.items schedules
  pub steps : All (IsStep trial schedules) search.links.items
  pub ends : All (IsEnd trial schedules) search.found.ends.items
  pub explored : IsExplored trial schedules search.links.items search.found done
  pub found : AreFindings trial search.found
  pub few : length search.nodes.items ≤ most

-- this event, or none where it is none
abbrev pub IsThis : Option Event → Option Event → Type 0
IsThis this event = event ≡ this

-- a node's step by this core under each of these events is followed in a tree that has grown from another
pub record Grows (trial : Trial) (before after : Searching) (schedules : List (List Pick)) (index core : ℕ)
    (under : Option Event → Type 0) : Type 0 where
  pub grown : List (List Pick)
  pub has_grown : HasGrown trial after.nodes.items schedules grown
  pub steps : All (IsStep trial schedules) before.links.items → All (IsStep trial grown) after.links.items
  pub followed : (event : Option Event) → under event →
      IsFollowed trial grown after.links.items index (record { core = core; event = event })

pub record IsFollowedIn (trial : Trial) (most : ℕ) (before after : Searching) (index core : ℕ)
    (under : Option Event → Type 0) : Type 0 where
  pub few : length after.nodes.items ≤ most
  pub kept : (from to : ℕ) → IsLink before.links.items from to → IsLink after.links.items from to
  pub grows : (schedules : List (List Pick)) → IsTree trial before.nodes.items schedules →
      Grows trial before after schedules index core under

-- the same while the steps of a node are followed: those of the cores below one
pub record IsUnderway (trial : Trial) (most : ℕ) (search : Searching) (index core : ℕ) : Type 0 where
  pub schedules : List (List Pick)
  pub searching : IsSearching trial most search schedules index
  pub within : index < length search.nodes.items
  pub followed : (other : ℕ) → other < core → (event : Option Event) → IsAllowed trial.events event →
      IsFollowed trial schedules search.links.items index (record { core = other; event = event })
  pub shown : IsShown trial schedules search.found index

abbrev pub HaveDone : Trial → ℕ → Searching → ℕ → Type 0
HaveDone trial most search done = (schedules : List (List Pick)) × IsSearching trial most search schedules done

-- ---- where it is over

-- all of its nodes are done
pub record IsOver (trial : Trial) (most : ℕ) (search : Searching) : Type 0 where
  pub done : ℕ
  pub schedules : List (List Pick)
  pub searching : IsSearching trial most search schedules done
  pub whole : length search.nodes.items ≤ done

-- the schedule of the first node from which no link leads on to an end, and how many there are
pub record IsWayless (nodes : List Node) (marked : List Bool) (stuck : Stuck) : Type 0 where
  pub node : ℕ
  pub within : node < length nodes
  pub not_marked : ¬ IsMarked marked node
  pub first : (other : ℕ) → other < node → IsMarked marked other
  pub states : stuck.states ≡ unmarked marked
  pub schedule : (trial : Trial) (schedules : List (List Pick)) → IsTree trial nodes schedules →
      stuck.schedule.items ≡ schedule_at schedules node

-- none where each node is marked
abbrev pub TellsWayless : List Node → List Bool → Option Stuck → Type 0
TellsWayless nodes marked None = (node : ℕ) → node < length nodes → IsMarked marked node
TellsWayless nodes marked (Some stuck) = IsWayless nodes marked stuck

-- ---- a cycle

-- these steps, under the event that is usual, lead from one place to the other, whose memory is what it was but on the
-- lines that are noted
pub record IsMade (trial : Trial) (before after : Place) (old new : Written) (steps : List Pick) : Type 0 where
  pub are_picks : All (IsPickOf trial) steps
  pub usual : AreUsual trial steps
  pub at : (schedule : List Pick) → IsAt trial before schedule → IsAt trial after (schedule ++ steps)
  pub place : IsPlaceIn trial new after
  pub keeps : KeepsNoted old new

-- where a node leads to some core has not stopped, and from there these steps lead back
pub record GoesRound (trial : Trial) (schedules : List (List Pick)) (index : ℕ) (steps : List Pick) : Type 0 where
  pub now : Situation
  pub is_run : after_schedule (trial_setting trial) (trial_opening trial) (schedule_at schedules index) ≡ Some now
  pub goes_on : ¬ HasEnded now.state
  pub leads_back : LeadsBack trial now steps

-- the schedule of a node that is marked, and steps that lead round from it
pub record IsRoundOf (trial : Trial) (nodes : List Node) (marked : List Bool) (cycle : Cycle) : Type 0 where
  pub node : ℕ
  pub within : node < length nodes
  pub is_marked : IsMarked marked node
  pub schedule : (schedules : List (List Pick)) → IsTree trial nodes schedules →
      cycle.schedule.items ≡ schedule_at schedules node
  pub round : (schedules : List (List Pick)) → IsTree trial nodes schedules →
      GoesRound trial schedules node cycle.steps.items

-- ---- what it came to

-- by marks that were passed on from the ends
pub record IsVerdictOf (trial : Trial) (nodes : List Node) (links : List Link) (ends : List ℕ) (verdict : Verdict)
    : Type 0 where
  pub marked : List Bool
  pub marks : AreMarks links ends (length nodes) marked
  pub stuck : TellsWayless nodes marked verdict.stuck
  pub cycle : IfSome verdict.cycle (IsRoundOf trial nodes marked)

-- what a search that is over tells
pub record IsWholeOf (trial : Trial) (search : Searching) (told : Search) : Type 0 where
  pub outcomes : told.outcomes ≡ search.found.outcomes
  pub stops : told.stops ≡ search.found.stops
  pub violations : told.violations ≡ search.found.violations
  pub waited : told.waited ≡ search.found.waited
  pub states : told.states ≡ length search.nodes.items
  pub is_cut : told.is_cut ≡ false
  pub verdict : IsVerdictOf trial search.nodes.items search.links.items search.found.ends.items
      (record { stuck = told.stuck; cycle = told.cycle })

-- what a search that is cut tells
pub record IsCutOf (search : Searching) (told : Search) : Type 0 where
  pub outcomes : told.outcomes ≡ search.found.outcomes
  pub stops : told.stops ≡ search.found.stops
  pub violations : told.violations ≡ search.found.violations
  pub waited : told.waited ≡ search.found.waited
  pub states : told.states ≡ length search.nodes.items
  pub is_cut : told.is_cut ≡ true
  pub stuck : told.stuck ≡ None
  pub cycle : told.cycle ≡ None
