-- The parts of a text that a separator divides.
use Rattle.std.specs.Prelude.{ℕ, ◌+◌, ◌==◌, List, [], drop, take, Option, Some, None}
use Rattle.std.specs.List.{position}

abbrev pub up_to : Option ℕ → List ℕ → List ℕ
up_to None text = text
up_to (Some place) text = take place text

abbrev pub behind : Option ℕ → List ℕ → List ℕ
behind None text = []
behind (Some place) text = drop (place + 1) text

-- what stands before the first separator, and what stands behind it
unfoldable pub first_part : ℕ → List ℕ → List ℕ
first_part separator text = up_to (position (λ byte. byte == separator) text) text

unfoldable pub other_parts : ℕ → List ℕ → List ℕ
other_parts separator text = behind (position (λ byte. byte == separator) text) text
