-- The lines of a text: each ends at a line feed, and a carriage return before that is no part of it. What follows the
-- last line feed is a line where it is not empty.
use Rattle.std.specs.Prelude.{ℕ, Bool, false, ◌==◌, ◌&&◌, if◌then◌else◌, List, [], ◌∷◌}

abbrev pub onto : ℕ → List (List ℕ) → List (List ℕ)
onto b [] = (b ∷ []) ∷ []
onto b (l ∷ ls) = (b ∷ l) ∷ ls

abbrev pub begins_with_lf : List ℕ → Bool
begins_with_lf [] = false
begins_with_lf (b ∷ bs) = b == 10

abbrev pub lines_of : List ℕ → List (List ℕ)
lines_of [] = []
lines_of (b ∷ bs) =
    if b == 10 then [] ∷ lines_of bs
    else if (b == 13) && begins_with_lf bs then lines_of bs
    else onto b (lines_of bs)

-- a line without the carriage return that may end it
abbrev pub without_cr : List ℕ → List ℕ
without_cr [] = []
without_cr (b ∷ []) = if b == 13 then [] else b ∷ []
without_cr (b ∷ c ∷ bs) = b ∷ without_cr (c ∷ bs)
