use Rattle.std.proofs.Common.{unwrap_or, nat_eq, ap, refl}
use Rattle.std.proofs.lemmas.List.{get_or-replicate}
use Rattle.std.specs.Map.{lookup}
use Rattle.tm_stats.specs.Counts.{same_cause, same_size}
use Rattle.tm_stats.specs.Places.{zero_counts}
use Rattle.tm_stats.specs.contracts.cause.AbortCausePartialEq.TheImpl as causes
use Rattle.tm_stats.proofs.counts.RunCounts.new.Goals as goal

pub returns : goal.returns
returns c = record {
  steps_told = refl;
  outside = refl;
  idle = refl;
  drained = refl;
  under_way = λ core small. get_or-replicate 256 core 0 0 small;
  places = λ q. ap (λ es. unwrap_or (lookup (nat_eq q) es) zero_counts) c.new.ensures.empty;
  causes = λ q. ap (λ es. unwrap_or (lookup (same_cause ((causes.ghosts).eq) q) es) 0) c.new-2.ensures.empty;
  lengths = λ q. ap (λ es. unwrap_or (lookup (same_size q) es) 0) c.new-3.ensures.empty;
  reads = λ q. ap (λ es. unwrap_or (lookup (same_size q) es) 0) c.new-4.ensures.empty;
  writes = λ q. ap (λ es. unwrap_or (lookup (same_size q) es) 0) c.new-5.ensures.empty;
}
