use Rattle.std.proofs.Common.{◌≡◌, ℕ, ◌-◌, ◌≤◌, List, length}
use Rattle.text_out.specs.Writing.{Wrote}
use Rattle.elide_asm.specs.Labelled.{IsListed, address_of}
use Rattle.elide_asm.proofs.listing.write_listing.Given as goal

-- the lines of the bytes before `place` were written
abbrev pub invariant-lines : goal.invariant-lines
invariant-lines g l = (l.place ≤ length l.code) × (l.at ≡ address_of l.base l.place)
    × ((text : List ℕ) × IsListed l.marks l.code l.base l.place text
    × Wrote (g.O.Out.device l.initial.out) (g.O.Out.device l.out) text)

abbrev pub decreases-lines : goal.decreases-lines
decreases-lines g l = length l.code - l.place
