use Rattle.std.proofs.Common.{◌≡◌, ◌+◌, ◌-◌, ◌≤◌, drop, length}
use Rattle.std.specs.List.{prefix_len}
use Rattle.ia_names.specs.Tries.{is_letter}
use Rattle.ia_names.proofs.cut.part_length.Given as goal

abbrev pub invariant-loop-place : goal.invariant-loop-place
invariant-loop-place l = record {
  within : l.place ≤ length l.name;
  some : 1 ≤ l.place;
  counted : l.place + prefix_len is_letter (drop l.place l.name) ≡ 1 + prefix_len is_letter (drop 1 l.name);
}

abbrev pub decreases-loop-place : goal.decreases-loop-place
decreases-loop-place l = length l.name - l.place
