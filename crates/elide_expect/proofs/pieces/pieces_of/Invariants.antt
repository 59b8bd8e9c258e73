use Rattle.std.proofs.Common.{◌≡◌, ◌≤◌, ◌-◌, ◌++◌, drop, length, map}
use Rattle.elide_expect.specs.Patterns.{pieces_of}
use Rattle.elide_expect.proofs.pieces.pieces_of.Given as goal

abbrev pub invariant-loop-at : goal.invariant-loop-at
invariant-loop-at l = record {
  within : l.from ≤ length l.text;
  read : map (λ piece. piece.now) l.pieces.items ++ pieces_of (drop l.from l.text) ≡ pieces_of l.text;
}

abbrev pub decreases-loop-at : goal.decreases-loop-at
decreases-loop-at l = length l.text - l.from
