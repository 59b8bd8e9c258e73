use Rattle.std.proofs.Common.{◌≡◌, ◌+◌, ◌^◌, ◌<◌, drop, length}
use Rattle.tm_stats.specs.Spread.{rows_of_place, sizes_of}
use Rattle.tm_stats.proofs.spread.rows_of.Given as goal

-- what was counted, and the rows that are left
abbrev pub invariant-loop-index : goal.invariant-loop-index
invariant-loop-index l =
    let all = rows_of_place l.place (drop l.start l.sizes.entries) in
    let left = rows_of_place l.place (drop l.index l.sizes.entries) in
    (length (sizes_of all) < 2 ^ 64 → l.count + length (sizes_of left) ≡ length (sizes_of all))
    × (l.index + length left ≡ l.start + length all)
