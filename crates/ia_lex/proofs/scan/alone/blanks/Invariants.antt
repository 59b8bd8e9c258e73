use Rattle.std.proofs.Common.{◌≡◌, ◌-◌, ◌≤◌, drop, length}
use Rattle.ia_lex.specs.Tokens.{tokens_from}
use Rattle.ia_lex.proofs.scan.alone.blanks.Given as goal

abbrev pub invariant-loop-place : goal.invariant-loop-place
invariant-loop-place l = record {
  within : l.place ≤ length l.line;
  same : tokens_from 0 (drop l.place l.line) ≡ tokens_from 0 l.line;
}

abbrev pub decreases-loop-place : goal.decreases-loop-place
decreases-loop-place l = length l.line - l.place
