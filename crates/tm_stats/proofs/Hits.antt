-- The counts of some hits, with one hit more.
use Rattle.std.proofs.Common.{◌≡◌, ℕ, ◌+◌, ◌^◌, ◌<◌, ◌≤◌, Bool, List, [], ◌∷◌, length, unwrap_or, ap, ◌∙◌}
use Rattle.std.proofs.Common.{arith}
use Rattle.std.specs.HashMap.{HashMap}
use Rattle.std.specs.Map.{lookup}
use Rattle.tm_stats.specs.Conflicts.{how_many_hits}
use Rattle.tm_stats.specs.Tally.{counted, total_of}
use Rattle.tm_stats.specs.declared.conflicts.Conflict.{Conflict}
use Rattle.tm_stats.proofs.Bounds.{counted-le}

how_many_hits-le : (test : Conflict → Bool) (hits : List Conflict) → how_many_hits test hits ≤ length hits
how_many_hits-le test [] = omega arith
how_many_hits-le test (hit ∷ hits) = omega (arith, counted-le (test hit) _ _ (how_many_hits-le test hits))

pub hits_told : {K S : Type 0} (eq : K → K → Bool) (key_of : Conflict → K) (old room new : HashMap K ℕ S)
    (hit : Conflict) (hits : List Conflict) → length hits + 1 < 2 ^ 32 → room.entries ≡ old.entries
    → ((q : K) → total_of eq old q ≡ how_many_hits (λ one. eq (key_of one) q) hits)
    → ((q : K) → total_of eq room q + 1 < 2 ^ 64
    → total_of eq new q ≡ counted (eq (key_of hit) q) (total_of eq room q))
    → (q : K) → total_of eq new q ≡ how_many_hits (λ one. eq (key_of one) q) (hit ∷ hits)
hits_told eq key_of old room new hit hits few kept are made q =
    let was : total_of eq room q ≡ how_many_hits (λ one. eq (key_of one) q) hits =
    ap (λ es. unwrap_or (lookup (eq q) es) 0) kept ∙ are q in
    made q (omega (arith, was, how_many_hits-le (λ one. eq (key_of one) q) hits))
    ∙ ap (λ n. counted (eq (key_of hit) q) n) was
