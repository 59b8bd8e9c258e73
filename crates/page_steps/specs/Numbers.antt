-- Lists of numbers (page/README.md).
use Rattle.std.specs.Prelude.{ℕ, List, ◌∷◌, ◌++◌, codes, decimal, map}
use Rattle.std.specs.List.{join_with_byte}

abbrev pub behind_comma : ℕ → List ℕ
behind_comma number = 44 ∷ decimal number

-- numbers with commas between
abbrev pub numbers_inner : List ℕ → List ℕ
numbers_inner numbers = join_with_byte 44 (map decimal numbers)

-- in brackets
abbrev pub numbers_text : List ℕ → List ℕ
numbers_text numbers = codes "[" ++ (numbers_inner numbers ++ codes "]")
