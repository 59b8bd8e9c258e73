-- The steps from one node of a search to another, and the ways that they make.
use Rattle.std.specs.Prelude.{◌≡◌, ◌≢◌, ℕ, ◌<◌, List, [], ◌∷◌, ◌++◌, Contains, Option, Some, None, length}
use Rattle.std.specs.Prelude.{slice_index_or, slice_set}
use Rattle.tm_outcomes.specs.declared.links.Link.{Link}
use Rattle.tm_outcomes.specs.declared.links.Sources.{Sources}

-- a link along which one node is reached from another
abbrev pub IsLink : List Link → ℕ → ℕ → Type 0
IsLink links from to = Contains links (record { from = from; to = to })

-- these nodes follow one another along links, and the last one is an end
abbrev pub IsWay : List Link → List ℕ → ℕ → List ℕ → Type 0
IsWay links ends node [] = Contains ends node
IsWay links ends node (next ∷ way) = IsLink links node next × IsWay links ends next way

abbrev pub HasWay : List Link → List ℕ → ℕ → Type 0
HasWay links ends node = (way : List ℕ) × IsWay links ends node way

-- both nodes of a link are among so many
pub record LiesWithin (nodes : ℕ) (link : Link) : Type 0 where
  pub from : link.from < nodes
  pub to : link.to < nodes

-- ---- links in the reverse direction

abbrev pub no_link : Link
no_link = record { from = 0; to = 0 }

abbrev pub link_at : List Link → ℕ → Link
link_at links index = slice_index_or links index no_link

-- of the links below an end this is the last that leads to a node
abbrev pub IsLast : List Link → ℕ → ℕ → Option ℕ → Type 0
IsLast links node end None = (other : ℕ) → other < end → (link_at links other).to ≢ node
IsLast links node end (Some index) =
    (index < end) × ((link_at links index).to ≡ node)
    × ((other : ℕ) → index < other → other < end → (link_at links other).to ≢ node)

-- of the links below an end
pub record AreSourcesTo (links : List Link) (nodes : ℕ) (sources : Sources) (end : ℕ) : Type 0 where
  pub nodes_count : length sources.newest.items ≡ nodes
  pub links_count : length sources.older.items ≡ end
  pub newest : (node : ℕ) → node < nodes → IsLast links node end (slice_index_or sources.newest.items node None)
  pub older : (index : ℕ) → index < end →
      IsLast links (link_at links index).to index (slice_index_or sources.older.items index None)

abbrev pub AreSources : List Link → ℕ → Sources → Type 0
AreSources links nodes sources = AreSourcesTo links nodes sources (length links)

-- the link of this index, which leads to this node, was taken up
pub record HasSource (before after : Sources) (to index : ℕ) : Type 0 where
  pub newest : after.newest.items ≡ slice_set before.newest.items to (Some index)
  pub older : after.older.items ≡ before.older.items ++ slice_index_or before.newest.items to None ∷ []
