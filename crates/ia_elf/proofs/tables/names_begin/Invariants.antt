use Rattle.std.proofs.Common.{◌*◌, ◌<◌, ℕ, length}
use Rattle.ia_elf.specs.Fields.{word_at}
use Rattle.ia_elf.proofs.tables.names_begin.Given as goal

abbrev pub invariant-loop-number : goal.invariant-loop-number
invariant-loop-number l = (k : ℕ) → k < l.number → word_at l.symbols (16 * k) < length l.strings
