use Rattle.std.proofs.Common.{take}
use Rattle.std.specs.List.{AllZip}
use Rattle.elide_program.specs.Parts.{IsDump}
use Rattle.elide_program.proofs.parts.dumps_of.Given as goal

-- each option so far has its part
abbrev pub invariant-loop-text : goal.invariant-loop-text
invariant-loop-text l = AllZip (λ text dump. IsDump l.file text.now dump) (take l.text-index l.texts) l.dumps.items
