use Rattle.std.proofs.Common.{length, drop, ◌-◌, ◌≡◌, ◌≤◌}
use Rattle.std.specs.List.{slice_get}
use Rattle.ia_lex.specs.Lines.{lines_of}
use Rattle.ia_diagnosis.specs.Diagnoses.{line_at}
use Rattle.ia_diagnosis.proofs.line.line_at.Given as goal

-- the line stands among those behind the place
abbrev pub invariant-lines : goal.invariant-lines
invariant-lines l =
    (l.place ≤ length l.source) × (line_at l.source l.fn.number ≡ slice_get (lines_of (drop l.place l.source)) l.above)

abbrev pub decreases-lines : goal.decreases-lines
decreases-lines l = length l.source - l.place
