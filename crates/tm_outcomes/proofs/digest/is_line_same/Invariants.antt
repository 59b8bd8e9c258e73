use Rattle.std.proofs.Common.{◌≡◌, ◌<◌, ◌≤◌, ℕ, true, length}
use Rattle.std.specs.Prelude.{slice_index}
use Rattle.tm_outcomes.proofs.digest.is_line_same.Given as goal

abbrev pub invariant-loop-at : goal.invariant-loop-at
invariant-loop-at l = record {
  counted : length l.these ≡ length l.those;
  within : l.end ≤ length l.these;
  so_far : l.same ≡ true → (address : ℕ) → l.start ≤ address → address < l.at →
      slice_index l.these address ≡ slice_index l.those address;
  differs : l.these ≡ l.those → l.same ≡ true;
}
