-- What is said of a page's text.
use Rattle.std.proofs.Common.{ℕ, List, Option, None, Some}
use Rattle.std.specs.Prelude.{IfSome}

-- where nothing is said of it
pub any_shows : (content : Option (List ℕ)) → IfSome content (λ _. Unit {0})
any_shows None = tt
any_shows (Some text) = tt
