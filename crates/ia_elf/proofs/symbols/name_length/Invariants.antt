use Rattle.std.proofs.Common.{◌≡◌, ◌+◌, drop}
use Rattle.std.specs.List.{prefix_len}
use Rattle.ia_elf.specs.Symbols.{is_not_nul}
use Rattle.ia_elf.proofs.symbols.name_length.Given as goal

abbrev pub invariant-loop-place : goal.invariant-loop-place
invariant-loop-place l = l.place + prefix_len is_not_nul (drop l.place l.text) ≡ prefix_len is_not_nul l.text
