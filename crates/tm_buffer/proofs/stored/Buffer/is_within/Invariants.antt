use Rattle.std.proofs.Common.{◌≡◌, ◌<◌, ℕ, get_or, length}
use Rattle.tm_buffer.specs.Slots.{AreSameOn}
use Rattle.tm_buffer.proofs.stored.Buffer.is_within.Given as goal

abbrev pub invariant-loop-place : goal.invariant-loop-place
invariant-loop-place l = (l.place-end ≡ length l.self.order)
    × ((k : ℕ) → k < l.place → AreSameOn l.self.bytes l.other.bytes (get_or l.self.order k 0))
