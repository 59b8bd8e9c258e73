-- The tree of names, node by node.
use Rattle.std.specs.Prelude.{◌≡◌, ℕ, ◌+◌, ◌<◌, Bool, true, false, not, ◌&&◌, ◌||◌, ◌==◌, List, [], ◌∷◌, ◌++◌, get_or}
use Rattle.std.specs.Prelude.{length}
use Rattle.std.specs.List.{fold, list_any}
use Rattle.ia_names.specs.declared.node.Node.{Node}

abbrev pub has_dot : List ℕ → Bool
has_dot bytes = list_any (λ b. b == 46) bytes

abbrev pub is_empty : List ℕ → Bool
is_empty [] = true
is_empty (b ∷ bs) = false

-- what stands behind a name as its last part: some letters, of which the first alone may be a dot, and is one unless
-- the name has no letters
abbrev pub is_part : List ℕ → List ℕ → Bool
is_part front [] = false
is_part front (b ∷ bs) = not (has_dot bs) && ((b == 46) || is_empty front)

abbrev pub with_whole : List (List ℕ) → Node → List (List ℕ)
with_whole names n = names ++ (get_or names n.parent [] ++ n.part.now) ∷ []

-- the whole names by their numbers: 0 is the name without letters, and each node adds the name of its parent with its
-- part behind it
abbrev pub wholes : List Node → List (List ℕ)
wholes nodes = fold with_whole ([] ∷ []) nodes

-- the node with this index adds a part to a name that is there
pub record IsChild (names : List (List ℕ)) (i : ℕ) (n : Node) : Type 0 where
  pub known : n.parent < length names
  pub part : is_part (get_or names n.parent []) n.part.now ≡ true
  pub whole : get_or names (i + 1) [] ≡ get_or names n.parent [] ++ n.part.now

-- no name stands there twice
abbrev pub AreDistinct : List (List ℕ) → Type 0
AreDistinct names = (i j : ℕ) → i < length names → j < length names → get_or names i [] ≡ get_or names j [] → i ≡ j

pub record IsTree (nodes : List Node) : Type 0 where
  pub distinct : AreDistinct (wholes nodes)
  pub children : (i : ℕ) (d : Node) → i < length nodes → IsChild (wholes nodes) i (get_or nodes i d)

-- the names of the numbers stay
abbrev pub AreKept : List Node → List Node → Type 0
AreKept old new = (i : ℕ) → i < length (wholes old)
    → (i < length (wholes new)) × (get_or (wholes new) i [] ≡ get_or (wholes old) i [])

-- letters that may follow a name: they begin with a dot, unless it has none
abbrev pub may_follow : List ℕ → List ℕ → Bool
may_follow front [] = true
may_follow front (b ∷ bs) = (b == 46) || is_empty front

-- no dot
abbrev pub is_letter : ℕ → Bool
is_letter b = not (b == 46)
