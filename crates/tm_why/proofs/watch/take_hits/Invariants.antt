use Rattle.std.proofs.Common.{◌≡◌, ℕ, ◌<◌, ◌≤◌, get_or, length}
use Rattle.tm_why.specs.Rows.{row_if_other}
use Rattle.tm_why.specs.Watched.{outside}
use Rattle.tm_why.proofs.watch.take_hits.Given as goal

abbrev pub invariant-loop-core : goal.invariant-loop-core
invariant-loop-core l = record {
  len : length l.rows ≡ 64;
  passed : (k : ℕ) → k < l.core → get_or l.rows k outside
      ≡ row_if_other k l.asked l.outcome l.number l.by (get_or l.initial.rows k outside);
  rest : (k : ℕ) → l.core ≤ k → get_or l.rows k outside ≡ get_or l.initial.rows k outside;
}
