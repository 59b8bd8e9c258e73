use Rattle.tm_debug.specs.Session.{value_of}
use Rattle.tm_debug.proofs.Sessions.{Serving}
use Rattle.tm_debug.proofs.session.serve_lines.Given as goal

-- the lines so far are answered
abbrev pub invariant-lines : goal.invariant-lines
invariant-lines g l =
    (goal.iterator-lines g).can_next l.iterator' × (goal.iterator-lines g).is_finite l.iterator'
    × Serving (g.I.In.remaining l.initial.input) (g.I.In.remaining l.input) (g.I.In.failed l.initial.input)
    (g.I.In.failed l.input)
    (value_of l.initial.state) (value_of l.state) (g.O.Out.device l.initial.out) (g.O.Out.device l.out)
