use Rattle.std.proofs.Common.{take}
use Rattle.std.specs.List.{flat_map}
use Rattle.text_out.specs.Writing.{Wrote}
use Rattle.tm_hist.specs.Lines.{pending_line}
use Rattle.tm_hist.proofs.lines.write_stores.Given as goal

-- the lines of the stores so far were written
abbrev pub invariant-loop-store : goal.invariant-loop-store
invariant-loop-store g l = Wrote (g.O.Out.device l.initial.out) (g.O.Out.device l.out)
    (flat_map (pending_line l.core) (take l.store-index l.stores))
