-- The counts of some steps, with one step more.
use Rattle.std.proofs.Common.{◌≡◌, ℕ, ◌+◌, ◌^◌, ◌<◌, ◌&&◌, Bool, List, ◌∷◌, length, nat_eq}
use Rattle.std.proofs.Common.{if◌then◌else◌, slice_index, slice_set, sym, ap, ◌∙◌, arith, ◌⊎◌, inl, inr}
use Rattle.std.proofs.lemmas.List.{get_or-set_same, get_or-set_other}
use Rattle.std.proofs.lemmas.Bool.{cases_eq, eq-eqb, ne_eqb}
use Rattle.tm_stats.specs.Causes.{cause_counted}
use Rattle.tm_stats.specs.Counts.{AreCounts, SameCounts, how_many, is_aborted, is_committed, is_drained}
use Rattle.tm_stats.specs.Counts.{is_idle, is_outside}
use Rattle.tm_stats.specs.Counts.{lines_read, lines_written, open_after, open_steps, same_cause, same_size, steps_taken}
use Rattle.tm_stats.specs.Places.{Fits, after_step, counts_at}
use Rattle.tm_stats.specs.Tally.{counted, total_of}
use Rattle.tm_stats.specs.declared.cause.AbortCause.{AbortCause}
use Rattle.tm_stats.specs.declared.counts.RunCounts.{RunCounts}
use Rattle.tm_stats.specs.declared.step.PlaceCause.{PlaceCause}
use Rattle.tm_stats.specs.declared.step.PlaceSize.{PlaceSize}
use Rattle.tm_stats.specs.declared.step.Step.{Step}
use Rattle.tm_stats.proofs.Bounds.{how_many-le, open_steps-le}
use Rattle.tm_stats.proofs.OneMore.{causes_told, places_told, sizes_told}
use Rattle.tm_stats.proofs.Same.{same_counts}

-- what the calls of `note` make of the counts
pub record IsTold (same : AbortCause → AbortCause → Bool) (old new : RunCounts) (step : Step)
    (before after length_now reads_now writes_now : ℕ) : Type 0 where
  pub steps_told : old.steps + 1 < 2 ^ 64 → new.steps ≡ old.steps + 1
  pub outside : old.outside + 1 < 2 ^ 64 → new.outside ≡ counted (is_outside step.outcome) old.outside
  pub idle : old.idle + 1 < 2 ^ 64 → new.idle ≡ counted (is_idle step.outcome) old.idle
  pub drained : old.drained + 1 < 2 ^ 64 → new.drained ≡ counted (is_drained step.outcome) old.drained
  pub longer : before + 1 < 2 ^ 64 → length_now ≡ before + 1
  pub reads_told : reads_now ≡ step.reads
  pub writes_told : writes_now ≡ step.writes
  pub own : before ≡ slice_index old.under_way step.core
  pub core : step.core < 256
  pub cores : length old.under_way ≡ 256
  pub next : before + 1 < 2 ^ 64 → after ≡ open_after step.outcome before
  pub under_way : new.under_way ≡ slice_set old.under_way step.core after
  pub places : (q : ℕ) → Fits (counts_at old.places q) before → counts_at new.places q
      ≡ (if nat_eq step.place q then after_step step.outcome before (counts_at old.places q)
      else counts_at old.places q)
  pub causes : (q : PlaceCause) → total_of (same_cause same) old.causes q + 1 < 2 ^ 64
      → total_of (same_cause same) new.causes q
      ≡ counted
      (is_aborted step.outcome && (nat_eq step.place q.place && same (cause_counted step.outcome step.cause) q.cause))
      (total_of (same_cause same) old.causes q)
  pub lengths : (q : PlaceSize) → total_of same_size old.lengths q + 1 < 2 ^ 64 → total_of same_size new.lengths q
      ≡ counted (is_committed step.outcome && (nat_eq step.place q.place && nat_eq length_now q.size))
      (total_of same_size old.lengths q)
  pub reads : (q : PlaceSize) → total_of same_size old.reads q + 1 < 2 ^ 64 → total_of same_size new.reads q
      ≡ counted (is_committed step.outcome && (nat_eq step.place q.place && nat_eq reads_now q.size))
      (total_of same_size old.reads q)
  pub writes : (q : PlaceSize) → total_of same_size old.writes q + 1 < 2 ^ 64 → total_of same_size new.writes q
      ≡ counted (is_committed step.outcome && (nat_eq step.place q.place && nat_eq writes_now q.size))
      (total_of same_size old.writes q)

one_more : (test : Step → Bool) (step : Step) (steps : List Step) (old new : ℕ) → length steps + 1 < 2 ^ 32
    → old ≡ how_many test steps → (old + 1 < 2 ^ 64 → new ≡ counted (test step) old)
    → new ≡ how_many test (step ∷ steps)
one_more test step steps old new few was made =
    made (omega (arith, was, how_many-le test steps)) ∙ ap (λ n. counted (test step) n) was

-- the steps under way, with one step more
under_way_told : (old : List ℕ) (step : Step) (steps : List Step) (after : ℕ) → step.core < 256 → length old ≡ 256
    → after ≡ open_after step.outcome (open_steps step.core steps)
    → ((core : ℕ) → core < 256 → slice_index old core ≡ open_steps core steps)
    → (core : ℕ) → core < 256 → slice_index (slice_set old step.core after) core ≡ open_steps core (step ∷ steps)
under_way_told old step steps after own full is are core small = by (cases_eq step.core core)
  where
    by : (step.core ≡ core) ⊎ (step.core ≡ core → ⊥)
        → slice_index (slice_set old step.core after) core ≡ open_steps core (step ∷ steps)
    by (inl e) =
        ap (λ k. slice_index (slice_set old step.core after) k) (sym e)
        ∙ get_or-set_same old step.core after 0 (omega (arith, own, full))
        ∙ is
        ∙ ap (λ k. open_after step.outcome (open_steps k steps)) e
        ∙ ap (λ b. if b then open_after step.outcome (open_steps core steps) else open_steps core steps)
        (sym (eq-eqb step.core core e))
    by (inr n) =
        get_or-set_other old step.core core after 0 (λ e. n (sym e))
        ∙ are core small
        ∙ ap (λ b. if b then open_after step.outcome (open_steps core steps) else open_steps core steps)
        (sym (ne_eqb step.core core n))

-- the step's counts, where room was made
pub told_counts : {same : AbortCause → AbortCause → Bool} {old room new : RunCounts} {step : Step}
    {before after length_now reads_now writes_now : ℕ} (steps : List Step) → length steps + 1 < 2 ^ 32
    → AreCounts same old steps → SameCounts old room
    → IsTold same room new step before after length_now reads_now writes_now
    → AreCounts same new (step ∷ steps)
told_counts {same} {old} {room} {new} {step} {before} {after} {length_now} {reads_now} {writes_now} steps
    few was kept told =
    let are : AreCounts same room steps = same_counts same old room steps kept was in
    let own : before ≡ open_steps step.core steps = told.own ∙ are.under_way step.core told.core in
    let small : before + 1 < 2 ^ 64 = omega (arith, own, open_steps-le step.core steps) in record {
      steps_told = told.steps_told (omega (arith, are.steps_told)) ∙ omega (arith, are.steps_told);
      outside =
          one_more (λ one. is_outside one.outcome) step steps room.outside new.outside few are.outside told.outside;
      idle = one_more (λ one. is_idle one.outcome) step steps room.idle new.idle few are.idle told.idle;
      drained =
          one_more (λ one. is_drained one.outcome) step steps room.drained new.drained few are.drained told.drained;
      under_way = λ core within.
          ap (λ l. slice_index l core) told.under_way
          ∙ under_way_told room.under_way step steps after told.core told.cores
          (told.next small ∙ ap (λ n. open_after step.outcome n) own) are.under_way core within;
      places = places_told room.places new.places step steps before own few are.places told.places;
      causes = causes_told same room.causes new.causes step steps few are.causes told.causes;
      lengths =
          sizes_told steps_taken room.lengths new.lengths step steps length_now
          (told.longer small ∙ ap (λ n. n + 1) own) few are.lengths told.lengths;
      reads =
          sizes_told lines_read room.reads new.reads step steps reads_now told.reads_told few are.reads told.reads;
      writes =
          sizes_told lines_written room.writes new.writes step steps writes_now told.writes_told few are.writes
          told.writes;
    }
