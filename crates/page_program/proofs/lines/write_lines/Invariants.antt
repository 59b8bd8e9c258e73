use Rattle.std.proofs.Common.{length, ◌-◌}
use Rattle.page_program.proofs.lines.write_lines.Given as goal

abbrev pub decreases-lines : goal.decreases-lines
decreases-lines g l = length l.text - l.place
