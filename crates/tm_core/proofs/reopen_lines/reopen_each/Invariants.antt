use Rattle.std.proofs.Common.{◌≡◌, ◌⊎◌, ◌<◌, ◌≤◌, ◌/◌, ℕ, length, get_or}
use Rattle.std.specs.Prelude.{slice_index}
use Rattle.tm_core.proofs.reopen_lines.reopen_each.Given as goal

-- each byte lies on one of the lines that are left, or is as it was
abbrev pub invariant-loop-line : goal.invariant-loop-line
invariant-loop-line l = record {
  count : length l.memory ≡ length l.opening;
  same : (address : ℕ) →
      ((k : ℕ) × (l.line-index ≤ k) × (k < length l.lines) × (get_or l.lines k (address / 64) ≡ address / 64))
      ⊎ (slice_index l.memory address ≡ slice_index l.opening address);
}
