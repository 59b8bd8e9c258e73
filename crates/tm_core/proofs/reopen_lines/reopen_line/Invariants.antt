use Rattle.std.proofs.Common.{◌≡◌, ◌<◌, ◌≤◌, ℕ, length}
use Rattle.std.specs.Prelude.{slice_index}
use Rattle.tm_core.proofs.reopen_lines.reopen_line.Given as goal

-- the bytes so far are as they were, and of the others those that were so are
abbrev pub invariant-loop-at : goal.invariant-loop-at
invariant-loop-at l = record {
  count : length l.memory ≡ length l.opening;
  within : l.end ≤ length l.opening;
  done : (address : ℕ) → l.start ≤ address → address < l.at →
      slice_index l.memory address ≡ slice_index l.opening address;
  kept : (address : ℕ) → slice_index l.initial.memory address ≡ slice_index l.opening address →
      slice_index l.memory address ≡ slice_index l.opening address;
}
