use Rattle.std.proofs.Common.{◌≡◌, ◌<◌, ◌≤◌, ℕ, Some}
use Rattle.std.specs.Prelude.{slice_get, slice_index, vec_items, vec_len, vec_capacity}
use Rattle.tm_work.specs.Seats.{SeatProgress}
use Rattle.tm_work.proofs.workers.steps_of.Given as goal

abbrev pub invariant-loop-seat : goal.invariant-loop-seat
invariant-loop-seat g l = record {
  count : vec_len l.steps ≡ l.seat-index;
  room : vec_len l.seats ≤ vec_capacity l.steps;
  each : (k : ℕ) (s : SeatProgress) → k < l.seat-index → slice_get (vec_items l.seats) k ≡ Some s
      → slice_index (vec_items l.steps) k ≡ s.progress.steps;
}
