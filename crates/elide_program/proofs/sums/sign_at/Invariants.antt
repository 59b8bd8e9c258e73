use Rattle.std.proofs.Common.{◌≡◌, ◌<◌, ℕ, false, slice_index}
use Rattle.elide_program.specs.Sums.{is_sign}
use Rattle.elide_program.proofs.sums.sign_at.Given as goal

-- no sign stands below
abbrev pub invariant-loop-at : goal.invariant-loop-at
invariant-loop-at l = (k : ℕ) → k < l.at → is_sign (slice_index l.text k) ≡ false
