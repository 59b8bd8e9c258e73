use Rattle.std.proofs.Common.{◌≡◌, ℕ, ◌<◌, ◌≤◌, None, get_or, length}
use Rattle.tm_why.proofs.asked.clear.Given as goal

abbrev pub invariant-loop-core : goal.invariant-loop-core
invariant-loop-core l = record {
  len : length l.hits ≡ 64;
  passed : (k : ℕ) → k < l.core → get_or l.hits k None ≡ None;
  rest : (k : ℕ) → l.below ≤ k → get_or l.hits k None ≡ None;
}
