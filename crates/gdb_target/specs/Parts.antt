-- A part of a text that gdb reads piece by piece (gdb manual, appendix E.4, "qXfer").
use Rattle.std.specs.Prelude.{ℕ, nat_le, nat_lt, if◌then◌else◌, List, ◌∷◌, drop, length, take}

-- no part is longer than a packet has room for
abbrev pub part_room : ℕ → ℕ
part_room count = if nat_lt count 16000 then count else 16000

-- l and the rest of the text, or m and a front of it
abbrev pub rest_or_front : List ℕ → ℕ → List ℕ
rest_or_front rest room = if nat_le (length rest) room then 108 ∷ rest else 109 ∷ take room rest

abbrev pub part_of : List ℕ → ℕ → ℕ → List ℕ
part_of text at count = rest_or_front (drop at text) (part_room count)
