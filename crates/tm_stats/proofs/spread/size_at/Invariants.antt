use Rattle.std.proofs.Common.{◌≡◌, drop}
use Rattle.std.specs.Prelude.{slice_get}
use Rattle.tm_stats.specs.Spread.{sizes_of}
use Rattle.tm_stats.proofs.spread.size_at.Given as goal

-- the size is the one at what is left of its rank, among the rows that are left
abbrev pub invariant-loop-index : goal.invariant-loop-index
invariant-loop-index l =
    slice_get (sizes_of (drop l.start l.sizes.entries)) l.rank
    ≡ slice_get (sizes_of (drop l.index l.sizes.entries)) l.left
