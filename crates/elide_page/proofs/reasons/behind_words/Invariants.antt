use Rattle.std.proofs.Common.{length, ◌-◌, ◌≤◌}
use Rattle.elide_page.proofs.reasons.behind_words.Given as goal

abbrev pub invariant-bytes : goal.invariant-bytes
invariant-bytes l = l.place ≤ length l.line

abbrev pub decreases-bytes : goal.decreases-bytes
decreases-bytes l = length l.line - l.place
