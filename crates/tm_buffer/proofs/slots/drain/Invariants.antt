use Rattle.std.proofs.Common.{◌≡◌, ℕ, get_or}
use Rattle.tm_buffer.proofs.Drain.{memory_with_below}
use Rattle.tm_buffer.proofs.slots.drain.Given as goal

abbrev pub invariant-loop-place : goal.invariant-loop-place
invariant-loop-place l = (q : ℕ) → get_or l.memory q 0 ≡ memory_with_below l.lines l.masks l.bytes l.fn.memory l.place q
