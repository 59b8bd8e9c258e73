-- A search on its way, with its bench: what following the steps of a node asks of it, and what it leaves.
use Rattle.std.specs.Prelude.{◌≡◌, ℕ, ◌<◌, ◌≤◌, Bool, true, false, List, [], Option, Some, None, length}
use Rattle.tm_model.specs.declared.outcome.Event.{Event}
use Rattle.tm_model.specs.declared.outcome.Event.TheVariants as event
use Rattle.tm_model.specs.declared.outcome.Pick.{Pick}
use Rattle.tm_outcomes.specs.Kept.{AreKept}
use Rattle.tm_outcomes.specs.Nodes.{BefallsBehind, HaveSchedules, IsNeededBehind, IsTree, IsUntouchedBehind}
use Rattle.tm_outcomes.specs.Nodes.{schedule_at}
use Rattle.tm_outcomes.specs.Places.{IsAt}
use Rattle.tm_outcomes.specs.Searching.{IsFollowedIn}
use Rattle.tm_outcomes.specs.Written.{IsBenchOf, IsPlaceIn}
use Rattle.tm_outcomes.specs.declared.bench.Bench.{Bench}
use Rattle.tm_outcomes.specs.declared.nodes.Node.{Node}
use Rattle.tm_outcomes.specs.declared.searching.Followed.{Followed}
use Rattle.tm_outcomes.specs.declared.searching.Progress.{Progress}
use Rattle.tm_outcomes.specs.declared.searching.Progress.TheVariants.{GoesOn, IsCut}
use Rattle.tm_outcomes.specs.declared.searching.Searching.{Searching}
use Rattle.tm_outcomes.specs.declared.trial.Trial.{Trial}

-- The machines of a new bench are the trial's. The one that goes on stands before the first step, and none is told to
-- stand at a node.
pub record IsNewBench (trial : Trial) (bench : Bench) : Type 0 where
  pub start : IsPlaceIn trial bench.noted bench.start
  pub at : bench.at ≡ None
  pub here : IsPlaceIn trial bench.noted bench.here
  pub begins : IsAt trial bench.here []
  pub other : IsPlaceIn trial bench.noted bench.other

-- ---- a core's step from a node on, by the schedule that leads there

-- it comes under the event that is usual, or under one that befalls the core
abbrev pub IsNeededAt : Trial → List Node → ℕ → Pick → Type 0
IsNeededAt trial nodes index pick =
    (schedules : List (List Pick)) → IsTree trial nodes schedules →
    IsNeededBehind trial (schedule_at schedules index) pick

-- this event befalls the core
abbrev pub BefallsAt : Trial → List Node → ℕ → ℕ → Event → Type 0
BefallsAt trial nodes index core event =
    (schedules : List (List Pick)) → IsTree trial nodes schedules →
    BefallsBehind trial (schedule_at schedules index) (record { core = core; event = Some event })

-- the core's step is under this event what it is under none
abbrev pub IsUntouchedAt : Trial → List Node → ℕ → ℕ → Event → Type 0
IsUntouchedAt trial nodes index core event =
    (schedules : List (List Pick)) → IsTree trial nodes schedules →
    IsUntouchedBehind trial (schedule_at schedules index) core event

-- whether an event befalls the core that was followed, and makes another step of its own
abbrev pub befalls : Followed → Event → Bool
befalls followed (event.Abort by) = followed.was_open
befalls followed event.Drain = followed.drains_apart

-- so it is known of each event
pub record AreKnownAt (trial : Trial) (nodes : List Node) (index core : ℕ) (followed : Followed) : Type 0 where
  pub untouched : (event : Event) → befalls followed event ≡ false → IsUntouchedAt trial nodes index core event
  pub befallen : (event : Event) → befalls followed event ≡ true → BefallsAt trial nodes index core event

-- ---- a node that is gone on from

-- the machines of a bench are of the search's nodes, which are pairwise different on the lines that it notes
pub record HasBench (trial : Trial) (search : Searching) (places : Bench) : Type 0 where
  pub bench : IsBenchOf trial search.nodes.items places
  pub kept : AreKept trial search places.noted

-- a search that goes on from this node
pub record GoesOnFrom (trial : Trial) (most : ℕ) (search : Searching) (bench : Bench) (index : ℕ) : Type 0 where
  pub within : index < length search.nodes.items
  pub few : length search.nodes.items ≤ most
  pub tree : HaveSchedules trial search.nodes.items
  pub has_bench : HasBench trial search bench

-- The step of this node's core was followed under each of these events, or there is a state more than the limit. The
-- bench is the search's still.
pub record HasFollowed (trial : Trial) (most : ℕ) (before after : Searching) (bench : Bench) (index core : ℕ)
    (under : Option Event → Type 0) (progress : Progress) : Type 0 where
  pub followed : progress ≡ GoesOn → IsFollowedIn trial most before after index core under
  pub cut : progress ≡ IsCut → length after.nodes.items ≡ most
  pub has_bench : HasBench trial after bench
