-- What the counts of some steps become with one step more.
use Rattle.std.proofs.Common.{◌≡◌, ℕ, ◌+◌, ◌^◌, ◌<◌, Bool, true, false, ◌&&◌, List, ◌∷◌, length, nat_eq}
use Rattle.std.proofs.Common.{if◌then◌else◌, refl, ap, ◌∙◌, arith}
use Rattle.std.specs.HashMap.{HashMap}
use Rattle.tm_model.specs.declared.outcome.Outcome.{Outcome}
use Rattle.tm_model.specs.declared.outcome.Outcome.TheVariants.{Plain, Loaded, Stopped, Idle, Begun, Inside}
use Rattle.tm_model.specs.declared.outcome.Outcome.TheVariants.{Committed, Aborted, AbortedBy, Drained}
use Rattle.tm_stats.specs.Causes.{cause_counted}
use Rattle.tm_stats.specs.Counts.{begun_at, committed_at, aborted_at, aborted_for, commits_of, counts_of}
use Rattle.tm_stats.specs.Counts.{is_aborted, is_begun, is_committed, lost_at, open_steps, same_cause, same_size}
use Rattle.tm_stats.specs.Places.{Fits, after_step, counts_at}
use Rattle.tm_stats.specs.Tally.{counted, total_of}
use Rattle.tm_stats.specs.declared.cause.AbortCause.{AbortCause}
use Rattle.tm_stats.specs.declared.place_counts.PlaceCounts.{PlaceCounts}
use Rattle.tm_stats.specs.declared.step.PlaceCause.{PlaceCause}
use Rattle.tm_stats.specs.declared.step.PlaceSize.{PlaceSize}
use Rattle.tm_stats.specs.declared.step.Step.{Step}
use Rattle.tm_stats.proofs.Bounds.{commits_of-le, how_many-le, lost-le, open_steps-le}

-- ---- places

at : (o : Outcome) (own : Bool) (b c a l before : ℕ) →
    let old : PlaceCounts = record { begun = b; committed = c; aborted = a; lost = l } in
    let new : PlaceCounts = record {
      begun = counted (is_begun o && own) b;
      committed = counted (is_committed o && own) c;
      aborted = counted (is_aborted o && own) a;
      lost = if is_aborted o && own then l + (before + 1) else l;
    } in
    (if own then after_step o before old else old) ≡ new
at Plain true b c a l before = refl
at Plain false b c a l before = refl
at Loaded true b c a l before = refl
at Loaded false b c a l before = refl
at (Stopped stop) true b c a l before = refl
at (Stopped stop) false b c a l before = refl
at Idle true b c a l before = refl
at Idle false b c a l before = refl
at Begun true b c a l before = refl
at Begun false b c a l before = refl
at Inside true b c a l before = refl
at Inside false b c a l before = refl
at Committed true b c a l before = refl
at Committed false b c a l before = refl
at (Aborted status) true b c a l before = refl
at (Aborted status) false b c a l before = refl
at (AbortedBy interference status) true b c a l before = refl
at (AbortedBy interference status) false b c a l before = refl
at Drained true b c a l before = refl
at Drained false b c a l before = refl

pub counts_step : (step : Step) (earlier : List Step) (q : ℕ) →
    (if nat_eq step.place q
    then after_step step.outcome (open_steps step.core earlier) (counts_of q earlier)
    else counts_of q earlier)
    ≡ counts_of q (step ∷ earlier)
counts_step step earlier q =
    at step.outcome (nat_eq step.place q) (begun_at q earlier) (committed_at q earlier) (aborted_at q earlier)
    (lost_at q earlier) (open_steps step.core earlier)

fits : (q core : ℕ) (steps : List Step) → length steps + 1 < 2 ^ 32
    → Fits (counts_of q steps) (open_steps core steps)
fits q core steps few = record {
  begun = omega (arith, how_many-le (λ step. is_begun step.outcome && nat_eq step.place q) steps);
  committed = omega (arith, how_many-le (λ step. is_committed step.outcome && nat_eq step.place q) steps);
  aborted = omega (arith, how_many-le (λ step. is_aborted step.outcome && nat_eq step.place q) steps);
  lost = omega (arith, lost-le q steps (omega arith), open_steps-le core steps);
}

-- the counts of places, with one step more
pub places_told : {S : Type 0} (old new : HashMap ℕ PlaceCounts S) (step : Step) (steps : List Step) (before : ℕ)
    → before ≡ open_steps step.core steps → length steps + 1 < 2 ^ 32
    → ((q : ℕ) → counts_at old q ≡ counts_of q steps)
    → ((q : ℕ) → Fits (counts_at old q) before → counts_at new q
    ≡ (if nat_eq step.place q then after_step step.outcome before (counts_at old q) else counts_at old q))
    → (q : ℕ) → counts_at new q ≡ counts_of q (step ∷ steps)
places_told old new step steps before own few are made q =
    let room : Fits (counts_at old q) before =
    rw (are q, own) (fits q step.core steps few) in
    made q room
    ∙ ap (λ (k : PlaceCounts). if nat_eq step.place q then after_step step.outcome before k else k) (are q)
    ∙ ap (λ (n : ℕ). if nat_eq step.place q then after_step step.outcome n (counts_of q steps) else counts_of q steps)
    own
    ∙ counts_step step steps q

-- ---- sizes and causes

pub sizes_told : {S : Type 0} (size_of : Step → List Step → ℕ) (old new : HashMap PlaceSize ℕ S) (step : Step)
    (steps : List Step) (size : ℕ) → size ≡ size_of step steps → length steps + 1 < 2 ^ 32
    → ((q : PlaceSize) → total_of same_size old q ≡ commits_of size_of q.place q.size steps)
    → ((q : PlaceSize) → total_of same_size old q + 1 < 2 ^ 64 → total_of same_size new q
    ≡ counted (is_committed step.outcome && (nat_eq step.place q.place && nat_eq size q.size))
    (total_of same_size old q))
    → (q : PlaceSize) → total_of same_size new q ≡ commits_of size_of q.place q.size (step ∷ steps)
sizes_told size_of old new step steps size is few are made q =
    let test : ℕ → Bool = λ n. is_committed step.outcome && (nat_eq step.place q.place && nat_eq n q.size) in
    let room : total_of same_size old q + 1 < 2 ^ 64 =
    omega (arith, are q, commits_of-le size_of q.place q.size steps) in
    made q room ∙ ap (λ n. counted (test size) n) (are q)
    ∙ ap (λ n. counted (test n) (commits_of size_of q.place q.size steps)) is

pub causes_told : {S : Type 0} (same : AbortCause → AbortCause → Bool) (old new : HashMap PlaceCause ℕ S) (step : Step)
    (steps : List Step) → length steps + 1 < 2 ^ 32
    → ((q : PlaceCause) → total_of (same_cause same) old q ≡ aborted_for same q.place q.cause steps)
    → ((q : PlaceCause) → total_of (same_cause same) old q + 1 < 2 ^ 64 → total_of (same_cause same) new q
    ≡ counted
    (is_aborted step.outcome && (nat_eq step.place q.place && same (cause_counted step.outcome step.cause) q.cause))
    (total_of (same_cause same) old q))
    → (q : PlaceCause) → total_of (same_cause same) new q ≡ aborted_for same q.place q.cause (step ∷ steps)
causes_told same old new step steps few are made q =
    let test : Step → Bool =
    λ one. is_aborted one.outcome && (nat_eq one.place q.place && same (cause_counted one.outcome one.cause) q.cause) in
    let room : total_of (same_cause same) old q + 1 < 2 ^ 64 = omega (arith, are q, how_many-le test steps) in
    made q room ∙ ap (λ n. counted (test step) n) (are q)
