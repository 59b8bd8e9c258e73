use Rattle.std.proofs.Common.{◌-◌, ◌≤◌, ◌∷◌, [], ◌++◌, drop, length}
use Rattle.hex.specs.Hex.{encode_lower}
use Rattle.text_out.specs.Writing.{Making}
use Rattle.page_text.specs.Escaped.{hex_text}
use Rattle.page_text.proofs.number.write_hex.Given as goal

-- the digits of the bytes before `place` were written or stand on the page
abbrev pub invariant-chunks : goal.invariant-chunks
invariant-chunks g l = (l.place ≤ length l.bytes)
    × Making (g.O.Out.device l.initial.out) (g.O.Out.device l.out) l.page.items
    (encode_lower (drop l.place l.bytes) ++ 34 ∷ []) (hex_text l.bytes)

abbrev pub decreases-chunks : goal.decreases-chunks
decreases-chunks g l = length l.bytes - l.place
