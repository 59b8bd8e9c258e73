use Rattle.std.specs.List.{flat_map, range_with_len}
use Rattle.text_out.specs.Writing.{Wrote}
use Rattle.tm_hist.specs.Lines.{dump_line}
use Rattle.tm_hist.proofs.lines.write_dump.Given as goal

-- the lines so far were written
abbrev pub invariant-loop-index : goal.invariant-loop-index
invariant-loop-index g l = Wrote (g.O.Out.device l.initial.out) (g.O.Out.device l.out)
    (flat_map (dump_line l.bytes l.at) (range_with_len 0 l.index))
