-- Paths that lead to one file.
use Rattle.std.proofs.Common.{◌≡◌, ◌∙◌, Bool, Option, None, Some, sym}
use Rattle.std.specs.Prelude.{IfSome}
use Rattle.elide_setup.specs.Refused.{AreOne}

-- what is answered is what is known
pub is_one : (known : Option Bool) (answer is : Bool) → IfSome known (λ one. answer ≡ one) → answer ≡ is
    → AreOne known is
is_one None answer is h e = tt
is_one (Some one) answer is h e = sym h ∙ e
