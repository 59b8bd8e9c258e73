use Rattle.std.proofs.Common.{◌-◌, ◌≤◌, drop, length}
use Rattle.bstr.specs.Utf8.{lossy_chars}
use Rattle.text_out.specs.Writing.{Making}
use Rattle.page_text.specs.Escaped.{escaped}
use Rattle.page_text.specs.Shown.{shown, shown_chars}
use Rattle.page_text.proofs.text.write_shown.Given as goal

-- the characters before `place` were written or stand on the page
abbrev pub invariant-characters : goal.invariant-characters
invariant-characters g l = (l.place ≤ length l.text) × (l.left ≤ l.most)
    × Making (g.O.Out.device l.initial.out) (g.O.Out.device l.out) l.page.items
    (escaped l.escape (shown_chars l.left (lossy_chars (drop l.place l.text)))) (escaped l.escape (shown l.most l.text))

abbrev pub decreases-characters : goal.decreases-characters
decreases-characters g l = length l.text - l.place
