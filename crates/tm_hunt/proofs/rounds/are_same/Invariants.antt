use Rattle.std.proofs.Common.{◌≡◌, take}
use Rattle.tm_hunt.proofs.rounds.are_same.Given as goal

abbrev pub invariant-loop-index : goal.invariant-loop-index
invariant-loop-index l = take l.index l.picks ≡ take l.index l.others
