use Rattle.tm_hist.specs.Board.{SameBoard}
use Rattle.tm_gdb.specs.States.{session_value}
use Rattle.tm_gdb.proofs.Served.{Serving}
use Rattle.tm_gdb.proofs.session.serve_bytes.Given as goal

-- what was heard so far was done, the board is of the same program and limits, and no device has failed
abbrev pub invariant-bytes : goal.invariant-bytes
invariant-bytes g l =
    (goal.iterator-bytes g).can_next l.iterator' × (goal.iterator-bytes g).is_finite l.iterator'
    × SameBoard l.initial.session.target.board l.session.target.board
    × Serving (g.I.In.remaining l.initial.input) (g.I.In.remaining l.input) (g.I.In.failed l.initial.input)
    (g.I.In.failed l.input) l.session.reader (session_value l.initial.session) (session_value l.session)
    (g.O.Out.device l.initial.out) (g.O.Out.device l.out)
