use Rattle.std.proofs.Common.{◌≡◌, ◌≤◌, ◌++◌, [], ◌∷◌, drop, length, map}
use Rattle.elide_expect.specs.Patterns.{meets, some_end}
use Rattle.elide_expect.proofs.pieces.end_meets.Given as goal

abbrev pub invariant-loop-piece : goal.invariant-loop-piece
invariant-loop-piece l = record {
  within : l.from ≤ length l.line;
  read : some_end (meets (map (λ piece. piece.now) (drop l.piece-index l.middle ++ l.last ∷ []))) (drop l.from l.line)
      ≡ some_end (meets (map (λ piece. piece.now) l.pieces)) l.line;
}
