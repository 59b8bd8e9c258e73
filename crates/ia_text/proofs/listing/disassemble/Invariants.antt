use Rattle.std.proofs.Common.{◌-◌, ◌^◌, ◌<◌, ◌≤◌, drop, length}
use Rattle.ia_text.specs.Listing.{listing, listing_from}
use Rattle.text_out.specs.Writing.{Making}
use Rattle.ia_text.proofs.listing.disassemble.Given as goal

-- the lines before `place` were written or stand on the page
abbrev pub invariant-lines : goal.invariant-lines
invariant-lines g l = (l.place ≤ length l.code) × (l.at < 2 ^ 32)
    × Making (g.O.Out.device l.initial.out) (g.O.Out.device l.out) l.page.items
    (listing_from 0 (drop l.place l.code) l.at) (listing l.code l.base)

abbrev pub decreases-lines : goal.decreases-lines
decreases-lines g l = length l.code - l.place
