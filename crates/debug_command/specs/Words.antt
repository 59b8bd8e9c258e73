-- The words of a line, which spaces separate (docs/FORMATS.md, "Debugger").
use Rattle.std.specs.Prelude.{ℕ, ◌==◌, not, List, [], take, drop, Option, Some, None}
use Rattle.std.specs.List.{position}

abbrev pub from_position : Option ℕ → List ℕ → List ℕ
from_position None bytes = []
from_position (Some i) bytes = drop i bytes

abbrev pub to_position : Option ℕ → List ℕ → List ℕ
to_position None bytes = bytes
to_position (Some i) bytes = take i bytes

-- a line without the spaces in front
unfoldable pub without_front_spaces : List ℕ → List ℕ
without_front_spaces line = from_position (position (λ b. not (b == 32)) line) line

-- the first word, empty where there is none, and what stands behind it
unfoldable pub first_word : List ℕ → List ℕ
first_word line = to_position (position (λ b. b == 32) (without_front_spaces line)) (without_front_spaces line)

unfoldable pub after_first_word : List ℕ → List ℕ
after_first_word line = from_position (position (λ b. b == 32) (without_front_spaces line)) (without_front_spaces line)
