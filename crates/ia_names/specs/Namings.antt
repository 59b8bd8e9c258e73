-- What the numbers of symbols stand for.
use Rattle.std.specs.Prelude.{◌≡◌, ℕ, ◌+◌, ◌<◌, nat_lt, if◌then◌else◌, List, [], ◌∷◌, get_or, length, replicate}
use Rattle.ia_item.specs.declared.symbol.Symbol.{Symbol}
use Rattle.ia_names.specs.declared.names.Names.{Names}
use Rattle.ia_names.specs.Tries.{wholes, AreKept}

-- a whole name for each number, and for no two the same
abbrev pub Naming : Type 0
Naming = ℕ → List ℕ

abbrev pub IsOneToOne : Naming → Type 0
IsOneToOne naming = (m n : ℕ) → naming m ≡ naming n → m ≡ n

-- such a naming has these names
pub record IsNaming (naming : Naming) (names : Names) : Type 0 where
  pub one_to_one : IsOneToOne naming
  pub named : (i : ℕ) → i < length (wholes names.nodes.keys) → naming i ≡ get_or (wholes names.nodes.keys) i []

-- the symbol has this name
abbrev pub IsNamed : Names → Symbol → List ℕ → Type 0
IsNamed names s name =
    (s.number < length (wholes names.nodes.keys)) × (get_or (wholes names.nodes.keys) s.number [] ≡ name)

-- the names of the numbers stay
abbrev pub Grows : Names → Names → Type 0
Grows old new = AreKept old.nodes.keys new.nodes.keys

-- ---- a naming of some names, whose further numbers have names that are longer than all of them

abbrev pub total_length : List (List ℕ) → ℕ
total_length [] = 0
total_length (n ∷ names) = length n + total_length names

unfoldable pub naming_of : Names → Naming
naming_of names n = if nat_lt n (length (wholes names.nodes.keys)) then get_or (wholes names.nodes.keys) n []
    else replicate (1 + total_length (wholes names.nodes.keys) + n) 0
