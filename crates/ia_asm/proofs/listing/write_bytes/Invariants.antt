use Rattle.std.proofs.Common.{◌≡◌, ◌++◌}
use Rattle.std.specs.List.{flat_map, range_with_len}
use Rattle.ia_asm.specs.ListingText.{bytes_line}
use Rattle.ia_asm.proofs.listing.write_bytes.Given as goal

-- the lines so far were written
abbrev pub invariant-loop-index : goal.invariant-loop-index
invariant-loop-index l =
    l.out.items ≡ l.initial.out.items ++ flat_map (bytes_line l.bytes l.at) (range_with_len 0 l.index)
