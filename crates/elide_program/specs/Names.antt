-- The name of a file.
use Rattle.std.specs.Prelude.{◌≡◌, ℕ, ◌⊎◌, List, ◌∷◌, ◌++◌, not, true, ◌==◌}
use Rattle.std.specs.List.{list_all}

-- no `/` stands in it
abbrev pub IsOnePart : List ℕ → Type 0
IsOnePart text = list_all (λ byte. not (byte == 47)) text ≡ true

-- the part of a path behind its last `/`, or all of a path without one
abbrev pub IsNameOf : List ℕ → List ℕ → Type 0
IsNameOf path name = IsOnePart name × ((name ≡ path) ⊎ ((folder : List ℕ) × (path ≡ folder ++ 47 ∷ name)))
