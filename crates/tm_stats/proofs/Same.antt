-- Counts that differ in their rooms alone are counts of the same steps.
use Rattle.std.proofs.Common.{List, ap, ◌∙◌}
use Rattle.std.specs.Map.{lookup}
use Rattle.std.proofs.Common.{Bool, nat_eq, unwrap_or, slice_index}
use Rattle.tm_stats.specs.Counts.{AreCounts, SameCounts, same_cause, same_size}
use Rattle.tm_stats.specs.Places.{zero_counts}
use Rattle.tm_stats.specs.declared.cause.AbortCause.{AbortCause}
use Rattle.tm_stats.specs.declared.counts.RunCounts.{RunCounts}
use Rattle.tm_stats.specs.declared.step.Step.{Step}

pub same_counts : (same : AbortCause → AbortCause → Bool) (old new : RunCounts) (steps : List Step)
    → SameCounts old new → AreCounts same old steps → AreCounts same new steps
same_counts same old new steps kept are = record {
  steps_told = kept.steps_told ∙ are.steps_told;
  outside = kept.outside ∙ are.outside;
  idle = kept.idle ∙ are.idle;
  drained = kept.drained ∙ are.drained;
  under_way = λ core small. ap (λ l. slice_index l core) kept.under_way ∙ are.under_way core small;
  places = λ q. ap (λ es. unwrap_or (lookup (nat_eq q) es) zero_counts) kept.places ∙ are.places q;
  causes = λ q. ap (λ es. unwrap_or (lookup (same_cause same q) es) 0) kept.causes ∙ are.causes q;
  lengths = λ q. ap (λ es. unwrap_or (lookup (same_size q) es) 0) kept.lengths ∙ are.lengths q;
  reads = λ q. ap (λ es. unwrap_or (lookup (same_size q) es) 0) kept.reads ∙ are.reads q;
  writes = λ q. ap (λ es. unwrap_or (lookup (same_size q) es) 0) kept.writes ∙ are.writes q;
}
