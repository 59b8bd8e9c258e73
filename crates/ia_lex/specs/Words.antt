-- Words in any case, and the names of registers.
use Rattle.std.specs.Prelude.{ℕ, ◌+◌, Bool, true, false, ◌==◌, ◌&&◌, nat_le, if◌then◌else◌, Option, Some, None, List}
use Rattle.std.specs.Prelude.{[], ◌∷◌, codes}
use denote.Bor.{Bor}
use Rattle.ia_word.specs.declared.width.Width.{Width}
use Rattle.ia_word.specs.declared.width.Width.TheVariants.{B, D}

abbrev pub lower : ℕ → ℕ
lower b = if nat_le 65 b && nat_le b 90 then b + 32 else b

-- a word in any case is this name, which is in lower case
abbrev pub is_word : List ℕ → List ℕ → Bool
is_word [] [] = true
is_word (a ∷ name) (b ∷ word) = (a == lower b) && is_word name word
is_word _ _ = false

-- what stands beside the first name that the word is
abbrev pub find_word : {A : Type 0} → List (List ℕ × A) → List ℕ → Option A
find_word [] w = None
find_word (r ∷ rs) w = if is_word r.0 w then Some r.1 else find_word rs w

-- a row of a table as content
abbrev pub row : {A : Type 0} → Bor (List ℕ) × A → List ℕ × A
row r = (r.0.now, r.1)

abbrev pub register_rows : List (List ℕ × (Width × ℕ))
register_rows =
    (codes "eax", (D, 0)) ∷ (codes "ecx", (D, 1)) ∷ (codes "edx", (D, 2)) ∷ (codes "ebx", (D, 3))
    ∷ (codes "esp", (D, 4)) ∷ (codes "ebp", (D, 5)) ∷ (codes "esi", (D, 6)) ∷ (codes "edi", (D, 7))
    ∷ (codes "al", (B, 0)) ∷ (codes "cl", (B, 1)) ∷ (codes "dl", (B, 2)) ∷ (codes "bl", (B, 3))
    ∷ (codes "ah", (B, 4)) ∷ (codes "ch", (B, 5)) ∷ (codes "dh", (B, 6)) ∷ (codes "bh", (B, 7)) ∷ []

abbrev pub register_of : List ℕ → Option (Width × ℕ)
register_of w = find_word register_rows w
