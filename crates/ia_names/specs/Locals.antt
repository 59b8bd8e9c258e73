-- Names behind labels (NASM manual, "Local Labels").
use Rattle.std.specs.Prelude.{ℕ, Bool, false, ◌==◌, if◌then◌else◌, List, [], ◌∷◌, ◌++◌}

-- a name that begins with a dot is local
abbrev pub is_local : List ℕ → Bool
is_local [] = false
is_local (b ∷ bs) = b == 46

-- the whole name of a name behind a label
abbrev pub whole_of : List ℕ → List ℕ → List ℕ
whole_of scope own = if is_local own then scope ++ own else own
