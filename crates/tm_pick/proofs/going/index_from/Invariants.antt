use Rattle.std.proofs.Common.{ℕ, ◌<◌, get_or}
use Rattle.tm_pick.proofs.going.index_from.Given as goal

abbrev pub invariant-loop-index : goal.invariant-loop-index
invariant-loop-index l = (k : ℕ) → k < l.index → get_or l.cores k 0 < l.number
