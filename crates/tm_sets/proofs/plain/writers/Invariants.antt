use Rattle.std.proofs.Common.{◌≡◌, ◌<◌, ◌≤◌, ◌^◌, ℕ}
use Rattle.tm_sets.specs.Content.{bit}
use Rattle.tm_sets.specs.Plain.{is_writer}
use Rattle.tm_sets.proofs.plain.writers.Given as goal

abbrev pub invariant-loop-other : goal.invariant-loop-other
invariant-loop-other l = record {
  mask : (k : ℕ) → k < l.other → bit l.writers k ≡ is_writer l.writes l.line l.core k;
  below : l.writers < 2 ^ l.other;
  visits : l.fn.visits ≤ l.visits;
}
