use Rattle.std.proofs.Common.{◌+◌, ◌-◌, ◌≤◌, [], drop, length}
use Rattle.ia_lex.specs.Lines.{lines_of}
use Rattle.text_out.specs.Writing.{Making}
use Rattle.ia_source.specs.Warnings.{warnings, warnings_from}
use Rattle.ia_source.proofs.warning.warn.Given as goal

-- the warnings of the lines before `place` were written
abbrev pub invariant-lines : goal.invariant-lines
invariant-lines g l = (l.above ≤ l.place) × (l.place ≤ length l.source)
    × Making (g.O.Out.device l.initial.out) (g.O.Out.device l.out) []
    (warnings_from (l.above + 1) (lines_of (drop l.place l.source))) (warnings l.source)

abbrev pub decreases-lines : goal.decreases-lines
decreases-lines g l = length l.source - l.place
