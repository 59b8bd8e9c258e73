use Rattle.tm_debug.proofs.Bytewise.{Reading}
use Rattle.tm_debug.proofs.line.read_line.Given as goal

-- the bytes so far are kept, and none of them is a line feed
abbrev pub invariant-bytes : goal.invariant-bytes
invariant-bytes g l =
    (goal.iterator-bytes g).can_next l.iterator' × (goal.iterator-bytes g).is_finite l.iterator'
    × Reading (g.I.In.remaining l.initial.input) (g.I.In.remaining l.input) (g.I.In.failed l.initial.input)
    (g.I.In.failed l.input) l.start
