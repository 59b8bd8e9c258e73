use Rattle.std.proofs.Common.{take, Some}
use Rattle.std.specs.List.{AllZip}
use Rattle.elide_program.specs.Sums.{IsSum}
use Rattle.elide_program.proofs.parts.values_of.Given as goal

-- each option so far has its part
abbrev pub invariant-loop-text : goal.invariant-loop-text
invariant-loop-text l =
    AllZip (λ text address. IsSum l.file text.now (Some address)) (take l.text-index l.texts) l.values.items
