use Rattle.std.proofs.Common.{length, ◌-◌, ◌≤◌}
use Rattle.ia_diagnosis.proofs.symbol.symbols_for.Given as goal

abbrev pub invariant-lines : goal.invariant-lines
invariant-lines l = l.place ≤ length l.source

abbrev pub decreases-lines : goal.decreases-lines
decreases-lines l = length l.source - l.place
