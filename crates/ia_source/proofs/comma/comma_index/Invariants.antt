use Rattle.std.proofs.Common.{◌≡◌, ◌+◌, ◌-◌, ◌≤◌, drop, length}
use Rattle.std.specs.List.{prefix_len}
use Rattle.ia_source.specs.Commas.{goes_on}
use Rattle.ia_source.proofs.comma.comma_index.Given as goal

abbrev pub invariant-loop-place : goal.invariant-loop-place
invariant-loop-place l = record {
  within : l.place ≤ length l.tokens;
  counted : l.place + prefix_len goes_on (drop l.place l.tokens) ≡ prefix_len goes_on l.tokens;
}

abbrev pub decreases-loop-place : goal.decreases-loop-place
decreases-loop-place l = length l.tokens - l.place
