-- A word of another length than a name is not it.
use Rattle.std.proofs.Common.{◌≡◌, ℕ, Bool, true, false, List, [], ◌∷◌, refl, length, arith}
use Rattle.std.specs.Prelude.{◌==◌, ◌&&◌}
use Rattle.ia_lex.specs.Words.{lower, is_word}

both : (a b : Bool) → (a && b) ≡ true → b ≡ true
both true b e = e
both false b e = absurd cc

pub same_length : (name word : List ℕ) → is_word name word ≡ true → length name ≡ length word
same_length [] [] e = refl
same_length [] (b ∷ word) e = absurd cc
same_length (a ∷ name) [] e = absurd cc
same_length (a ∷ name) (b ∷ word) e =
    let h = same_length name word (both (a == lower b) (is_word name word) e) in
    omega (arith, h)

pub other_length : (name word : List ℕ) → (length name ≡ length word → ⊥) → is_word name word ≡ false
other_length name word h = by (is_word name word) refl
  where
    by : (t : Bool) → is_word name word ≡ t → t ≡ false
    by false e = refl
    by true e = absurd (h (same_length name word e))
