use Rattle.std.proofs.Common.{◌≡◌, ◌+◌, ◌++◌, map, vec_capacity, vec_len}
use Rattle.tm_core.specs.Theorem.{steps_inside}
use Rattle.tm_hist.specs.History.{pair_of}
use Rattle.tm_hist.proofs.whole.push_transaction.Given as goal

abbrev pub invariant-loop : goal.invariant-loop
invariant-loop l = record {
  pairs : map pair_of l.made.items ≡ map pair_of l.fn.made.items ++ steps_inside l.core l.counter;
  count : vec_len l.made ≡ vec_len l.fn.made + l.counter + 1;
  capacity : vec_capacity l.made ≡ vec_capacity l.fn.made;
}
