-- The nodes of a search from which links lead to an end.
use Rattle.std.specs.Prelude.{◌≡◌, ◌⊎◌, ℕ, suc, ◌+◌, ◌<◌, Bool, true, false, List, [], ◌∷◌, ◌++◌, Contains, length}
use Rattle.std.specs.Prelude.{slice_index_or}
use Rattle.tm_outcomes.specs.Links.{HasWay, IsLink}
use Rattle.tm_outcomes.specs.declared.links.Link.{Link}
use Rattle.tm_outcomes.specs.declared.marks.Marks.{Marks}

abbrev pub IsMarked : List Bool → ℕ → Type 0
IsMarked marked node = slice_index_or marked node false ≡ true

-- just the nodes are marked that have a way to an end
pub record AreMarks (links : List Link) (ends : List ℕ) (nodes : ℕ) (marked : List Bool) : Type 0 where
  pub count : length marked ≡ nodes
  pub ended : (node : ℕ) → Contains ends node → IsMarked marked node
  pub passed : (from to : ℕ) → IsLink links from to → IsMarked marked to → IsMarked marked from
  pub ways : (node : ℕ) → IsMarked marked node → HasWay links ends node

-- ---- while they are passed on

-- how many are not marked
abbrev pub unmarked : List Bool → ℕ
unmarked [] = 0
unmarked (true ∷ marked) = unmarked marked
unmarked (false ∷ marked) = suc (unmarked marked)

-- nodes that are among some were marked, and stand in the queue behind the others
pub record HasGrown (among : ℕ → Type 0) (before after : Marks) : Type 0 where
  pub count : length after.marked.items ≡ length before.marked.items
  pub kept : (node : ℕ) → IsMarked before.marked.items node → IsMarked after.marked.items node
  pub more : List ℕ
  pub queue : after.queue.items ≡ before.queue.items ++ more
  pub marked : (node : ℕ) → Contains more node → IsMarked after.marked.items node
  pub only : (node : ℕ) → IsMarked after.marked.items node →
      IsMarked before.marked.items node ⊎ (Contains more node × among node)
  pub left : unmarked after.marked.items + length more ≡ unmarked before.marked.items

pub record HasMarked (before after : Marks) (node : ℕ) : Type 0 where
  pub grown : HasGrown (λ other. other ≡ node) before after
  pub here : IsMarked after.marked.items node

-- each node from which a link leads to this one is marked
abbrev pub IsPassed : List Link → List Bool → ℕ → Type 0
IsPassed links marked node = (from : ℕ) → IsLink links from node → IsMarked marked from

pub record HasPassed (links : List Link) (before after : Marks) (node : ℕ) : Type 0 where
  pub grown : HasGrown (λ from. IsLink links from node) before after
  pub passed : IsPassed links after.marked.items node

-- the ends are marked, and they alone
pub record AreEnds (ends : List ℕ) (nodes : ℕ) (marks : Marks) : Type 0 where
  pub count : length marks.marked.items ≡ nodes
  pub ended : (node : ℕ) → Contains ends node → IsMarked marks.marked.items node
  pub only : (node : ℕ) → IsMarked marks.marked.items node → Contains ends node
  pub queued : (node : ℕ) → IsMarked marks.marked.items node → Contains marks.queue.items node
  pub marked : (node : ℕ) → Contains marks.queue.items node → IsMarked marks.marked.items node

-- the nodes of the queue below an index have been looked at
pub record IsPassing (links : List Link) (ends : List ℕ) (nodes : ℕ) (marks : Marks) (done : ℕ) : Type 0 where
  pub count : length marks.marked.items ≡ nodes
  pub ended : (node : ℕ) → Contains ends node → IsMarked marks.marked.items node
  pub ways : (node : ℕ) → IsMarked marks.marked.items node → HasWay links ends node
  pub queued : (node : ℕ) → IsMarked marks.marked.items node → Contains marks.queue.items node
  pub marked : (node : ℕ) → Contains marks.queue.items node → IsMarked marks.marked.items node
  pub passed : (index : ℕ) → index < done → IsPassed links marks.marked.items (slice_index_or marks.queue.items index 0)
