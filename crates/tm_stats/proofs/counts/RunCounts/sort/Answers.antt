use Rattle.std.proofs.Common.{unwrap_or, ap, ◌∙◌}
use Rattle.tm_stats.specs.Places.{zero_counts}
use Rattle.tm_stats.proofs.counts.RunCounts.sort.Goals as goal

pub returns-in_err-sort_keys-3 : goal.returns-in_err-sort_keys-3
returns-in_err-sort_keys-3 c = λ steps are. record {
  steps_told = are.steps_told;
  outside = are.outside;
  idle = are.idle;
  drained = are.drained;
  under_way = are.under_way;
  places = λ q. ap (λ r. unwrap_or r zero_counts) (c.sort_keys.ensures.reordered.2 q) ∙ are.places q;
  causes = λ q. ap (λ r. unwrap_or r 0) (c.sort_keys-2.ensures.reordered.2 q) ∙ are.causes q;
  lengths = λ q. ap (λ r. unwrap_or r 0) (c.sort_keys-3.ensures.reordered.2 q) ∙ are.lengths q;
  reads = are.reads;
  writes = are.writes;
}

pub returns-in_err-sort_keys-4 : goal.returns-in_err-sort_keys-4
returns-in_err-sort_keys-4 c = λ steps are. record {
  steps_told = are.steps_told;
  outside = are.outside;
  idle = are.idle;
  drained = are.drained;
  under_way = are.under_way;
  places = λ q. ap (λ r. unwrap_or r zero_counts) (c.sort_keys.ensures.reordered.2 q) ∙ are.places q;
  causes = λ q. ap (λ r. unwrap_or r 0) (c.sort_keys-2.ensures.reordered.2 q) ∙ are.causes q;
  lengths = λ q. ap (λ r. unwrap_or r 0) (c.sort_keys-3.ensures.reordered.2 q) ∙ are.lengths q;
  reads = λ q. ap (λ r. unwrap_or r 0) (c.sort_keys-4.ensures.reordered.2 q) ∙ are.reads q;
  writes = are.writes;
}

pub returns : goal.returns
returns c = λ steps are. record {
  steps_told = are.steps_told;
  outside = are.outside;
  idle = are.idle;
  drained = are.drained;
  under_way = are.under_way;
  places = λ q. ap (λ r. unwrap_or r zero_counts) (c.sort_keys.ensures.reordered.2 q) ∙ are.places q;
  causes = λ q. ap (λ r. unwrap_or r 0) (c.sort_keys-2.ensures.reordered.2 q) ∙ are.causes q;
  lengths = λ q. ap (λ r. unwrap_or r 0) (c.sort_keys-3.ensures.reordered.2 q) ∙ are.lengths q;
  reads = λ q. ap (λ r. unwrap_or r 0) (c.sort_keys-4.ensures.reordered.2 q) ∙ are.reads q;
  writes = λ q. ap (λ r. unwrap_or r 0) (c.sort_keys-5.ensures.reordered.2 q) ∙ are.writes q;
}
