-- A text with escapes, a byte more at a time.
use Rattle.std.proofs.Common.{◌≡◌, ℕ, List, ◌∷◌, ◌++◌, refl}
use Rattle.elide_shell.specs.Controls.{escaped_behind, first_escaped}
use Rattle.elide_shell.specs.declared.escapes.Mark.{Mark}

pub one_more : (mark : Mark) (before byte : ℕ) (text rest : List ℕ) → text ≡ byte ∷ rest
    → first_escaped mark before text ++ escaped_behind mark byte rest ≡ escaped_behind mark before text
one_more mark before byte text rest split = rw split refl
