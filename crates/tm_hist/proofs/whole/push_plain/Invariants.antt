use Rattle.std.proofs.Common.{◌≡◌, ◌+◌, ◌++◌, map, vec_capacity, vec_len}
use Rattle.tm_core.specs.Theorem.{plain_steps}
use Rattle.tm_hist.specs.History.{pair_of}
use Rattle.tm_hist.proofs.whole.push_plain.Given as goal

abbrev pub invariant-loop : goal.invariant-loop
invariant-loop l = record {
  pairs : map pair_of l.made.items ≡ map pair_of l.fn.made.items ++ plain_steps l.core l.counter;
  count : vec_len l.made ≡ vec_len l.fn.made + l.counter;
  capacity : vec_capacity l.made ≡ vec_capacity l.fn.made;
}
