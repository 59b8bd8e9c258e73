use Rattle.std.proofs.Common.{◌≡◌, ℕ, [], length}
use Rattle.tm_sets.specs.Plain.{HaveRoom, line_set_at}
use Rattle.tm_sets.proofs.plain.empty_sets.Given as goal

abbrev pub invariant-loop : goal.invariant-loop
invariant-loop l = record {
  count : length l.sets.items ≡ l.counter;
  empty : (core : ℕ) → (line_set_at l.sets.items core).order ≡ [];
  room : HaveRoom l.sets.items l.room;
}
