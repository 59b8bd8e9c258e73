use Rattle.std.proofs.Common.{◌≡◌, ℕ, ◌<◌, ◌≤◌, None, get_or, length}
use Rattle.tm_why.specs.Said.{IsSaidOfDrain}
use Rattle.tm_why.proofs.asked.put_drain_hits.Given as goal

abbrev pub invariant-loop-victim : goal.invariant-loop-victim
invariant-loop-victim l = record {
  len : length l.hits ≡ 64;
  said : (k : ℕ) → k < l.victim → (k ≡ l.core → ⊥) →
      IsSaidOfDrain l.machine l.core k (get_or l.hits k None);
  own : get_or l.hits l.core None ≡ None;
  rest : (k : ℕ) → l.victim ≤ k → get_or l.hits k None ≡ None;
  most : l.end ≤ l.victim;
  none : (k : ℕ) → l.end ≤ k → get_or l.hits k None ≡ None;
}
