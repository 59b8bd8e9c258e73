-- How many transactions were hit, by the list of the hits.
use Rattle.std.specs.Prelude.{◌≡◌, ℕ, Bool, List, [], ◌∷◌, nat_eq}
use Rattle.tm_stats.specs.Tally.{counted, total_of}
use Rattle.tm_stats.specs.declared.conflicts.Conflict.{Conflict}
use Rattle.tm_stats.specs.declared.conflicts.Conflicts.{Conflicts}

abbrev pub how_many_hits : (Conflict → Bool) → List Conflict → ℕ
how_many_hits test [] = 0
how_many_hits test (hit ∷ hits) = counted (test hit) (how_many_hits test hits)

-- the counts of these hits, where `same` compares two of them
pub record AreConflicts (same : Conflict → Conflict → Bool) (counts : Conflicts) (hits : List Conflict) : Type 0 where
  pub lines : (line : ℕ) → total_of nat_eq counts.lines line ≡ how_many_hits (λ hit. nat_eq hit.line line) hits
  pub pairs : (key : Conflict) → total_of same counts.pairs key ≡ how_many_hits (λ hit. same hit key) hits
