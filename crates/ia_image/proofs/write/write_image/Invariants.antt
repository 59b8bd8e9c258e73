use Rattle.std.proofs.Common.{◌-◌, ◌≤◌, drop, length}
use Rattle.text_out.specs.Writing.{Making}
use Rattle.ia_image.specs.ImageText.{digit_rows, image_text}
use Rattle.ia_image.proofs.write.write_image.Given as goal

-- the header and the rows before `place` were written or stand on the page
abbrev pub invariant-rows : goal.invariant-rows
invariant-rows g l = (l.place ≤ length l.bytes)
    × Making (g.O.Out.device l.initial.out) (g.O.Out.device l.out) l.page.items (digit_rows (drop l.place l.bytes))
    (image_text l.bytes l.base l.code_len)

abbrev pub decreases-rows : goal.decreases-rows
decreases-rows g l = length l.bytes - l.place
