use Rattle.std.proofs.Common.{◌≡◌, take}
use Rattle.elide_replay.proofs.agreement.has_pending_of.Given as goal

-- the first ones are the same
abbrev pub invariant-loop-index : goal.invariant-loop-index
invariant-loop-index l = take l.index l.stores ≡ take l.index l.shown
