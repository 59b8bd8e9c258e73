use Rattle.std.proofs.Common.{◌≡◌, ◌<◌, ℕ, length}
use Rattle.tm_sets.specs.Row.{entry_at, freed, no_entry}
use Rattle.tm_sets.proofs.threaded.free_entries.Given as goal

abbrev pub invariant-loop-place : goal.invariant-loop-place
invariant-loop-place l = record {
  count : length l.entries.items ≡ l.place;
  free : (k : ℕ) → k < l.place → entry_at l.entries.items k ≡ freed no_entry k;
}
