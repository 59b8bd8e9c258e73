use Rattle.std.proofs.Common.{◌≡◌, ◌<◌, ℕ, true, get_or}
use Rattle.std.specs.FinSet as set
use Rattle.tm_sets.specs.LineSet.{lines_of}
use Rattle.tm_sets.proofs.line_set.are_within.Given as goal

abbrev pub invariant-loop-line : goal.invariant-loop-line
invariant-loop-line l = (k : ℕ) → k < l.line-index → set.contains (lines_of l.others) (get_or l.lines k 0) ≡ true
