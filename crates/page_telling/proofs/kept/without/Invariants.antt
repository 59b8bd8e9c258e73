use Rattle.std.proofs.Common.{take}
use Rattle.page_telling.specs.Kept.{OthersStay}
use Rattle.page_telling.proofs.kept.without.Given as goal

-- of the bytes so far those of other cores are there
abbrev pub invariant-loop-byte : goal.invariant-loop-byte
invariant-loop-byte l = OthersStay l.core (take l.byte-index l.bytes) l.left.items
