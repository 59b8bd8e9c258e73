-- Each row of the table is reached.
use Rattle.std.specs.Prelude.{◌≡◌, ℕ, ◌+◌, ◌<◌}
use Rattle.ia_insn.specs.Form.{Form}
use Rattle.ia_insn.specs.Table.{OpcodeRow}

-- at each of a row's opcodes the map gives the row's form
abbrev pub IsReached : (ℕ → Form) → OpcodeRow → Type 0
IsReached map r = (k : ℕ) → k < r.many → map (r.first + k) ≡ r.form k
