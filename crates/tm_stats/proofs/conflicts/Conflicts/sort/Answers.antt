use Rattle.std.proofs.Common.{unwrap_or, ap, ◌∙◌}
use Rattle.tm_stats.proofs.conflicts.Conflicts.sort.Goals as goal

pub returns-in_err-sort_by : goal.returns-in_err-sort_by
returns-in_err-sort_by c = λ hits are. record {
  lines = λ q.
      ap (λ r. unwrap_or r 0) (c.sort_by.ensures.reordered.2 q)
      ∙ (ap (λ r. unwrap_or r 0) (c.sort_keys.ensures.reordered.2 q) ∙ are.lines q);
  pairs = λ q. ap (λ r. unwrap_or r 0) (c.sort_keys-2.ensures.reordered.2 q) ∙ are.pairs q;
}

pub returns : goal.returns
returns c = λ hits are. record {
  lines = λ q.
      ap (λ r. unwrap_or r 0) (c.sort_by.ensures.reordered.2 q)
      ∙ (ap (λ r. unwrap_or r 0) (c.sort_keys.ensures.reordered.2 q) ∙ are.lines q);
  pairs = λ q.
      ap (λ r. unwrap_or r 0) (c.sort_by-2.ensures.reordered.2 q)
      ∙ (ap (λ r. unwrap_or r 0) (c.sort_keys-2.ensures.reordered.2 q) ∙ are.pairs q);
}
