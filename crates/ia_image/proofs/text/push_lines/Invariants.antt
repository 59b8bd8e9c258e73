use Rattle.std.proofs.Common.{◌≡◌, ◌+◌, ◌-◌, ◌≤◌, ◌++◌, List, ℕ, drop, length}
use Rattle.ia_lex.specs.Lines.{lines_of}
use Rattle.ia_image.specs.ImageText.{behind, bytes_of_lines}
use Rattle.ia_image.proofs.text.push_lines.Given as goal

-- the lines before `place` gave the bytes so far
abbrev pub invariant-lines : goal.invariant-lines
invariant-lines l = (l.place ≤ length l.text) × (l.number ≤ l.place + 2)
    × ((more : List ℕ) × (l.bytes.items ≡ l.initial.bytes.items ++ more)
    × (bytes_of_lines 2 (lines_of l.text) ≡ behind more (bytes_of_lines l.number (lines_of (drop l.place l.text)))))

abbrev pub decreases-lines : goal.decreases-lines
decreases-lines l = length l.text - l.place
