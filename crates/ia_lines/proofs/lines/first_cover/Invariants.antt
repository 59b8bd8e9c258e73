use Rattle.std.proofs.Common.{◌<◌, ℕ}
use Rattle.ia_lines.specs.Table.{Covers}
use Rattle.ia_lines.proofs.lines.first_cover.Given as goal

-- none of the first rows covers the address
abbrev pub invariant-loop-number : goal.invariant-loop-number
invariant-loop-number l = (k : ℕ) → k < l.number → ¬ Covers l.rows l.address k
