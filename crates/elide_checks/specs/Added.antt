-- What is added to a list for some texts.
use Rattle.std.specs.Prelude.{◌≡◌, ℕ, List, ◌++◌}
use Rattle.std.specs.Borrow.{Bor}
use Rattle.std.specs.List.{AllZip}

-- behind those that were there, one for each text, in their order
abbrev pub AreAdded : {B : Type 0} → (List ℕ → B → Type 0) → List (Bor (List ℕ)) → List B → List B → Type 0
AreAdded {B} Says texts old new =
    (more : List B) × (new ≡ old ++ more) × AllZip (λ text one. Says text.now one) texts more
