use Rattle.std.proofs.Common.{◌≡◌, take}
use Rattle.tm_core.proofs.alike.are_same.Given as goal

-- the first ones are the same
abbrev pub invariant-loop-index : goal.invariant-loop-index
invariant-loop-index l = take l.index l.these ≡ take l.index l.those
