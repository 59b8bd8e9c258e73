-- The text of a line that is expected, in which `...` stands for any characters (docs/FORMATS.md, "Tests").
use Rattle.std.specs.Prelude.{ℕ, zero, suc, ◌&&◌, ◌||◌, Bool, false, nat_eq, if◌then◌else◌, codes, List, []}
use Rattle.std.specs.Prelude.{◌∷◌, drop, length, Option, Some, None, option_map}
use Rattle.std.specs.Cmp.Lexicographic.{pointwise}
use Rattle.std.specs.List.{starts_with}
use Rattle.ia_lex.specs.Lines.{onto}

-- the pieces between `...`, behind so many further bytes
abbrev pub pieces_from : ℕ → List ℕ → List (List ℕ)
pieces_from k [] = [] ∷ []
pieces_from (suc k) (b ∷ bytes) = pieces_from k bytes
pieces_from zero (b ∷ bytes) = if starts_with nat_eq (b ∷ bytes) (codes "...") then [] ∷ pieces_from 2 bytes
    else onto b (pieces_from zero bytes)

abbrev pub pieces_of : List ℕ → List (List ℕ)
pieces_of text = pieces_from zero text

-- whether some end of the text passes, from the whole to the empty one
abbrev pub some_end : (List ℕ → Bool) → List ℕ → Bool
some_end test [] = test []
some_end test (b ∷ bytes) = test (b ∷ bytes) || some_end test bytes

-- whether a line is these pieces with anything between: the first at its front and the last at its end
abbrev pub meets : List (List ℕ) → List ℕ → Bool
meets [] line = false
meets (piece ∷ []) line = pointwise nat_eq piece line
meets (piece ∷ next ∷ pieces) line =
    starts_with nat_eq line piece && some_end (meets (next ∷ pieces)) (drop (length piece) line)

-- ---- what the code asks: where a text stands first

abbrev pub place_of : List ℕ → List ℕ → Option ℕ
place_of piece [] = if starts_with nat_eq [] piece then Some 0 else None
place_of piece (b ∷ bytes) = if starts_with nat_eq (b ∷ bytes) piece then Some 0
    else option_map (λ k. suc k) (place_of piece bytes)
