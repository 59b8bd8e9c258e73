use Rattle.std.proofs.Common.{◌≡◌}
use Rattle.elide_color.proofs.words.paint.Given as goal

-- no failure so far
abbrev pub invariant-loop-byte : goal.invariant-loop-byte
invariant-loop-byte g l = (g.O.Out.device l.out).failures ≡ (g.O.Out.device l.initial.out).failures
