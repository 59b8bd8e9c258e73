use Rattle.std.proofs.Common.{◌≡◌, ◌≤◌, ◌-◌, ◌++◌, drop, length, map}
use Rattle.ia_lex.specs.Lines.{lines_of}
use Rattle.elide_expect.proofs.text.lines_of.Given as goal

abbrev pub invariant-loop-place : goal.invariant-loop-place
invariant-loop-place l = record {
  within : l.place ≤ length l.text;
  read : map (λ line. line.now) l.lines.items ++ lines_of (drop l.place l.text) ≡ lines_of l.text;
}

abbrev pub decreases-loop-place : goal.decreases-loop-place
decreases-loop-place l = length l.text - l.place
