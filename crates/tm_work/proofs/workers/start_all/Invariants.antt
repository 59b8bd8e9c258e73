use Rattle.std.proofs.Common.{◌≡◌, ◌≤◌, ℕ, Some, length}
use Rattle.std.specs.Prelude.{slice_get, slice_index, vec_items, vec_len, vec_capacity}
use Rattle.tm_work.specs.Workers.{AreLeft}
use Rattle.tm_work.proofs.workers.start_all.Given as goal

abbrev pub invariant-loop-core : goal.invariant-loop-core
invariant-loop-core g l = record {
  count : vec_len l.handles ≡ l.core;
  room : length l.budgets ≤ vec_capacity l.handles;
  jobs : (k : ℕ) (h : _) → slice_get (vec_items l.handles) k ≡ Some h
      → (h.promise.core ≡ k) × (h.promise.budget ≡ slice_index l.budgets k);
  seats : AreLeft l.seats.items l.core (length l.budgets);
}
