use Rattle.std.proofs.Common.{length, ◌-◌}
use Rattle.page_program.proofs.lines.line_count.Given as goal

abbrev pub decreases-lines : goal.decreases-lines
decreases-lines l = length l.text - l.place
