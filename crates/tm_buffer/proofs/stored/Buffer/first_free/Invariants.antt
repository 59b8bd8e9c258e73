use Rattle.std.proofs.Common.{◌≡◌, ◌<◌, ℕ, None}
use Rattle.tm_buffer.specs.Buffer.{place_of}
use Rattle.tm_buffer.proofs.stored.Buffer.first_free.Given as goal

-- each slot so far is held
abbrev pub invariant-loop-slot : goal.invariant-loop-slot
invariant-loop-slot l = (k : ℕ) → k < l.slot → place_of l.self.slots k ≡ None → ⊥
