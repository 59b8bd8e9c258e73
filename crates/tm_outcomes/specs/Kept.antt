-- The nodes of a search are pairwise different: each new one was compared with those that its digest leads to.
use Rattle.std.specs.Prelude.{◌≡◌, ◌≢◌, ℕ, ◌<◌, List, Option, Some, None, length, map, nat_eq}
use Rattle.std.specs.Prelude.{slice_index_or}
use Rattle.std.specs.HashMap.{get}
use Rattle.tm_model.specs.declared.outcome.Pick.{Pick}
use Rattle.tm_outcomes.specs.Digests.{digest_by}
use Rattle.tm_outcomes.specs.Nodes.{IsTree, schedule_at}
use Rattle.tm_outcomes.specs.Places.{AreAlike, IsAt}
use Rattle.tm_outcomes.specs.Written.{IsAtNode}
use Rattle.tm_outcomes.specs.declared.nodes.Node.{Node}
use Rattle.tm_outcomes.specs.declared.place.Place.{Place}
use Rattle.tm_outcomes.specs.declared.searching.Searching.{Searching}
use Rattle.tm_outcomes.specs.declared.trial.Trial.{Trial}
use Rattle.tm_outcomes.specs.declared.written.Written.{Written}

abbrev pub digest_at : List Node → ℕ → ℕ
digest_at nodes index = slice_index_or (map (λ (node : Node). node.digest) nodes) index 0

abbrev pub older_at : List Node → ℕ → Option ℕ
older_at nodes index = slice_index_or (map (λ (node : Node). node.older) nodes) index None

-- ---- nodes by their digests

-- of the nodes below an end this is the last that has a digest
abbrev pub IsNewest : List Node → ℕ → ℕ → Option ℕ → Type 0
IsNewest nodes digest end None = (other : ℕ) → other < end → digest_at nodes other ≢ digest
IsNewest nodes digest end (Some index) =
    (index < end) × (digest_at nodes index ≡ digest)
    × ((other : ℕ) → index < other → other < end → digest_at nodes other ≢ digest)

-- each node leads to the one before it that has its digest
abbrev pub AreOlder : List Node → Type 0
AreOlder nodes =
    (index : ℕ) → index < length nodes → IsNewest nodes (digest_at nodes index) index (older_at nodes index)

-- and a map to the last one of all
abbrev pub AreNewest : Searching → Type 0
AreNewest search =
    (digest : ℕ) → IsNewest search.nodes.items digest (length search.nodes.items) (get nat_eq search.newest digest)

-- ---- nodes that are different

-- a machine at the end of this node's schedule has the digest that the node has
pub record HasDigest (trial : Trial) (nodes : List Node) (written : Written) (index : ℕ) : Type 0 where
  pub place : Place
  pub at : IsAtNode trial nodes place (Some index)
  pub digest : digest_at nodes index ≡ digest_by written place

-- no machine at the end of this node's schedule is as this place is
abbrev pub IsOther : Trial → List Node → Place → ℕ → Type 0
IsOther trial nodes place index =
    (schedules : List (List Pick)) → IsTree trial nodes schedules → (other : Place) →
    IsAt trial other (schedule_at schedules index) → ¬ AreAlike place other

-- no two nodes are the same, and each is found by its digest
pub record AreApart (trial : Trial) (nodes : List Node) (written : Written) : Type 0 where
  pub digests : (index : ℕ) → index < length nodes → HasDigest trial nodes written index
  pub older : AreOlder nodes
  pub apart : (first second : ℕ) → first < second → second < length nodes →
      (schedules : List (List Pick)) → IsTree trial nodes schedules → (place : Place) →
      IsAt trial place (schedule_at schedules second) → IsOther trial nodes place first

pub record AreKept (trial : Trial) (search : Searching) (written : Written) : Type 0 where
  pub apart : AreApart trial search.nodes.items written
  pub newest : AreNewest search
