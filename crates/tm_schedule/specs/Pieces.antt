-- A text that is cut.
use Rattle.std.specs.Prelude.{◌≡◌, ℕ, ◌<◌, ◌==◌, List, [], ◌∷◌, Option, Some, None, length}
use Rattle.std.specs.Borrow.{Bor}
use Rattle.std.specs.List.{slice_split}

-- a text was cut at the first such byte, or nowhere
abbrev pub IsCut : ℕ → List ℕ → List ℕ → Option (Bor (List ℕ)) → Type 0
IsCut byte text piece None = slice_split (λ b. b == byte) text ≡ piece ∷ []
IsCut byte text piece (Some rest) =
    (slice_split (λ b. b == byte) text ≡ piece ∷ slice_split (λ b. b == byte) rest.now)
    × (length rest.now < length text)
