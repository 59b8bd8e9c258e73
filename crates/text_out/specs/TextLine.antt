-- What lines of printed text have in common (docs/FORMATS.md, "Printed lines").
use Rattle.std.specs.Prelude.{ℕ, ◌+◌, ◌/◌, ◌%◌, List, [], ◌∷◌, nat_lt, if◌then◌else◌}

-- a line feed
abbrev pub line_end : List ℕ
line_end = 10 ∷ []

-- a number below 1000 in decimal digits
unfoldable pub number_text : ℕ → List ℕ
number_text n =
    if nat_lt n 10 then (48 + n) ∷ []
    else if nat_lt n 100 then (48 + n / 10) ∷ (48 + n % 10) ∷ []
    else (48 + n / 100) ∷ (48 + n / 10 % 10) ∷ (48 + n % 10) ∷ []
