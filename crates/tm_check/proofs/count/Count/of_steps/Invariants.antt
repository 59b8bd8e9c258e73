use Rattle.std.proofs.Common.{◌≡◌, ◌≤◌, take}
use Rattle.tm_hist.specs.History.{pairs_of}
use Rattle.tm_check.specs.Counts.{count_in}
use Rattle.tm_check.proofs.count.Count.of_steps.Given as goal

-- as many so far as the steps so far have
abbrev pub invariant-steps : goal.invariant-steps
invariant-steps l = record {
  counted : l.number ≡ count_in l.self (take l.index (pairs_of l.history));
  few : l.number ≤ l.index;
}
