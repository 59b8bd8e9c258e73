use Rattle.std.proofs.Common.{◌≡◌, drop}
use Rattle.ia_insn.specs.Operations.{condition_name}
use Rattle.ia_source.specs.Keywords.{find_named}
use Rattle.ia_source.proofs.keyword.find_condition.Given as goal

abbrev pub invariant-loop-i : goal.invariant-loop-i
invariant-loop-i l =
    find_named condition_name (drop l.i l.conditions) l.word ≡ find_named condition_name l.conditions l.word
