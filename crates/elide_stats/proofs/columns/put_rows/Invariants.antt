use Rattle.std.proofs.Common.{take}
use Rattle.std.specs.List.{flat_map}
use Rattle.text_out.specs.Writing.{Wrote}
use Rattle.elide_stats.proofs.columns.put_rows.Given as goal

-- the rows so far were put
abbrev pub invariant-loop-row : goal.invariant-loop-row
invariant-loop-row g l =
    Wrote (g.O.Out.device l.initial.out) (g.O.Out.device l.out) (flat_map g.R.PutRow.text (take l.row-index l.rows))
