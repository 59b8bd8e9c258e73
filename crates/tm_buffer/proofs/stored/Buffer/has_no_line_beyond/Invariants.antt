use Rattle.std.proofs.Common.{◌≡◌, ◌<◌, ℕ, get_or, None, length}
use Rattle.tm_buffer.specs.Buffer.{place_of}
use Rattle.tm_buffer.specs.Slots.{IsBareOn}
use Rattle.tm_buffer.proofs.stored.Buffer.has_no_line_beyond.Given as goal

abbrev pub invariant-loop-place : goal.invariant-loop-place
invariant-loop-place l = (l.place-end ≡ length l.self.order)
    × ((k : ℕ) → k < l.place → place_of l.other.order (get_or l.self.order k 0) ≡ None
    → IsBareOn l.self.bytes (get_or l.self.order k 0))
