use Rattle.std.proofs.Common.{◌≡◌, ◌+◌, ◌≤◌, ℕ, Some}
use Rattle.std.specs.Prelude.{slice_get, slice_index, vec_items, vec_len, vec_capacity}
use Rattle.std.specs.Vec.Iter.{into_iter_items, into_iter_len}
use Rattle.tm_work.specs.Workers.{EachDone}
use Rattle.tm_work.proofs.workers.join_all.Given as goal

abbrev pub invariant-loop-handle : goal.invariant-loop-handle
invariant-loop-handle g l = record {
  count : vec_len l.done + into_iter_len l.handle-iterator ≡ vec_len l.fn.handles;
  jobs : (k : ℕ) (h : _) → slice_get (into_iter_items l.handle-iterator) k ≡ Some h
      → (h.promise.core ≡ vec_len l.done + k) × (h.promise.budget ≡ slice_index l.budgets (vec_len l.done + k));
  done : EachDone l.budgets (vec_items l.done);
  room : vec_len l.fn.handles ≤ vec_capacity l.done;
}
