use Rattle.std.proofs.Common.{◌≡◌, List, length, ◌+◌, ◌≤◌, ◌++◌}
use Rattle.ia_lines.specs.Machine.{Runs, initial}
use Rattle.ia_lines.specs.declared.lines.Row.{Row}
use Rattle.ia_lines.proofs.program.run.Given as goal

-- some rows were appended, and whatever the rest of the program appends comes behind them
abbrev pub invariant-opcodes : goal.invariant-opcodes
invariant-opcodes l = (length l.rows.items + length l.rest ≤ length l.initial.rows.items + length l.program)
    × ((done : List Row) × (l.rows.items ≡ l.initial.rows.items ++ done)
    × ((more : List Row) → Runs l.layout l.registers l.rest more → Runs l.layout initial l.program (done ++ more)))

abbrev pub decreases-opcodes : goal.decreases-opcodes
decreases-opcodes l = length l.rest
