use Rattle.std.proofs.Common.{◌≡◌, ℕ, ◌+◌, ◌%◌, ◌^◌, ◌<◌, []}
use Rattle.symbols.specs.Marks.{marks_at}
use Rattle.elide_asm.proofs.listing.before_label.Given as goal

-- no label stands at the bytes so far
abbrev pub invariant-loop-count : goal.invariant-loop-count
invariant-loop-count l = (k : ℕ) → 0 < k → k < l.count → marks_at l.marks ((l.at + k) % 2 ^ 32) ≡ []
