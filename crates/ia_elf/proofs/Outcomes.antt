-- What a test says that answers true exactly where a fact holds.
use Rattle.std.proofs.Common.{◌≡◌, ◌↔◌, Bool, true, false, IsTrue}

pub holds : (b : Bool) (P : Type 0) → (IsTrue b ↔ P) → b ≡ true → P
holds b P test is = test.0 is

pub fails : (b : Bool) (P : Type 0) → (IsTrue b ↔ P) → b ≡ false → ¬ P
fails b P test is p = let yes : b ≡ true = test.1 p in cc
