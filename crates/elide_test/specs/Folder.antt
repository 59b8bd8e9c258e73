-- Paths as they are seen from the folder of a file with tests (docs/FORMATS.md, "Tests").
use Rattle.std.specs.Prelude.{◌≡◌, ℕ, Bool, List, ◌∷◌, ◌++◌, codes, nat_eq, Option, Some, None, if◌then◌else◌}
use Rattle.std.specs.List.{starts_with}

-- a path that begins at the root
abbrev pub is_rooted : List ℕ → Bool
is_rooted path = starts_with nat_eq path (codes "/")

-- the path of what stands in a folder
abbrev pub in_folder : List ℕ → List ℕ → List ℕ
in_folder folder path = folder ++ (codes "/" ++ path)

-- a path that is seen from a folder, where it is relative; with no folder it stays as it is
abbrev pub seen : Option (List ℕ) → List ℕ → List ℕ
seen None path = path
seen (Some folder) path = if is_rooted path then path else in_folder folder path

-- a path is that of a file of this name, in this folder, if it names one
abbrev pub IsIn : Option (List ℕ) → List ℕ → List ℕ → Type 0
IsIn None name path = path ≡ name
IsIn (Some folder) name path = path ≡ in_folder folder name
