use Rattle.std.specs.List.{flat_map, range_with_len}
use Rattle.text_out.specs.Writing.{Wrote}
use Rattle.tm_debug.specs.Session.{pending_lines}
use Rattle.tm_debug.proofs.pending.write_all.Given as goal

-- the lines of the cores so far were written
abbrev pub invariant-loop-core : goal.invariant-loop-core
invariant-loop-core g l = Wrote (g.O.Out.device l.initial.out) (g.O.Out.device l.out)
    (flat_map (pending_lines l.machine) (range_with_len 0 l.core))
