use Rattle.std.proofs.Common.{◌≡◌, drop}
use Rattle.ia_insn.specs.Mnemonics.{stem}
use Rattle.ia_source.specs.Keywords.{find_named}
use Rattle.ia_source.proofs.keyword.find_mnemonic.Given as goal

abbrev pub invariant-loop-i : goal.invariant-loop-i
invariant-loop-i l = find_named stem (drop l.i l.mnemonics) l.word ≡ find_named stem l.mnemonics l.word
