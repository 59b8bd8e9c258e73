use Rattle.std.proofs.Common.{◌≡◌, ℕ, ◌<◌, None, get_or, length, unwrap_or}
use Rattle.tm_page.proofs.changes.changed_row.Given as goal

abbrev pub invariant-loop-number : goal.invariant-loop-number
invariant-loop-number l = record {
  len : length l.row ≡ 8;
  filled : (k : ℕ) → k < l.number → unwrap_or (get_or l.row k None) (get_or l.old k 0) ≡ get_or l.new k 0;
}
