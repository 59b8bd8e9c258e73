use Rattle.std.proofs.Common.{rules}
use Rattle.std.proofs.lemmas.List.Sorted.{answers_always, ranks_by}
use Rattle.std.specs.Cmp.Lexicographic.{nat_list_cmp_total, slice_cmp}
use Rattle.std.specs.Ordering.{is_lt, nat_cmp}
use Rattle.tm_outcomes.specs.declared.table.FoundOutcome.{FoundOutcome}
use Rattle.elide_outcomes.proofs.report.sort.Goals as goal

pub returns : goal.returns
returns c = record {
  each_once = c.sort_unstable_by.ensures.permutation;
  sorted = c.sort_unstable_by.ensures.sorted
      (λ (a b : FoundOutcome). is_lt (slice_cmp nat_cmp a.values.items b.values.items))
      (ranks_by nat_list_cmp_total (λ (t : FoundOutcome). t.values.items))
      (answers_always _ _ _ (λ f a r g h. search rules));
}
