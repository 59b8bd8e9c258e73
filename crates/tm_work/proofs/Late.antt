-- Drains of stores that are late, and one more.
use Rattle.std.proofs.Common.{◌≡◌, ◌+◌, ◌≤◌, ◌<◌, ◌∙◌, ℕ, Some, List, [], ◌∷◌, ◌++◌, arith, ap, cond, drop, length, sym}
use Rattle.std.proofs.Common.{take}
use Rattle.std.specs.Prelude.{get_or, slice_get}
use Rattle.std.proofs.Math.Nat.{min-le_left}
use Rattle.std.proofs.lemmas.List.{append-nil, append_assoc, drop-append-le, drop_all, length-take, length-take-le}
use Rattle.std.proofs.lemmas.List.{replicate-append-replicate, take_all, take_more}
use Rattle.std.proofs.lemmas.List.Sums.{sum_by-append}
use Rattle.std.proofs.lemmas.Option.{get_or_from_slice_get, slice_get_within}
use Rattle.tm_model.specs.declared.outcome.Outcome.{Outcome}
use Rattle.tm_model.specs.declared.outcome.Outcome.TheVariants as outcome
use Rattle.tm_work.specs.Late.{drains_alone, drains_of, is_drain_of}

one_more_drain : (core many : ℕ)
    → drains_alone core many ++ (core, outcome.Drained) ∷ [] ≡ drains_alone core (many + 1)
one_more_drain core many = replicate-append-replicate many 1 (core, outcome.Drained)

-- behind drains, one more
pub drained_on : (before now after : List (ℕ × Outcome)) (core many : ℕ) → now ≡ before ++ drains_alone core many
    → after ≡ now ++ (core, outcome.Drained) ∷ [] → after ≡ before ++ drains_alone core (many + 1)
drained_on before now after core many h k =
    k ∙ ap (λ l. l ++ (core, outcome.Drained) ∷ []) h
    ∙ append_assoc before (drains_alone core many) ((core, outcome.Drained) ∷ [])
    ∙ ap (λ l. before ++ l) (one_more_drain core many)

-- none yet
pub drained_first : (before : List (ℕ × Outcome)) (core : ℕ) → before ≡ before ++ drains_alone core 0
drained_first before core = sym (append-nil before)

-- ---- counted

-- one step more
drains_next : (core from index : ℕ) (history : List (ℕ × Outcome)) (none : ℕ × Outcome) → from ≤ index
    → index < length history
    → drains_of core (drop from (take (index + 1) history))
    ≡ drains_of core (drop from (take index history)) + cond (is_drain_of core (get_or history index none)) 1 0
drains_next core from index history none low within =
    let step : ℕ × Outcome = get_or history index none in
    let size = length-take-le index history (omega (arith, within)) in
    let parts : drop from (take (index + 1) history) ≡ drop from (take index history) ++ step ∷ [] =
    ap (λ l. drop from l) (take_more history index none within)
    ∙ drop-append-le from (take index history) (step ∷ []) (omega (arith, size)) in
    let both = sum_by-append (λ (x : ℕ × Outcome). cond (is_drain_of core x) 1 0) (drop from (take index history))
    (step ∷ []) in
    ap (λ l. drains_of core l) parts ∙ omega (arith, both)

pub drains_counted : (core from index count : ℕ) (history : List (ℕ × Outcome)) (step : ℕ × Outcome) → from ≤ index
    → slice_get history index ≡ Some step → count ≡ drains_of core (drop from (take index history))
    → count + cond (is_drain_of core step) 1 0 ≡ drains_of core (drop from (take (index + 1) history))
drains_counted core from index count history step low is counted =
    let next = drains_next core from index history step low (slice_get_within history index step is) in
    let here : get_or history index step ≡ step = get_or_from_slice_get history index step step is in
    ap (λ n. n + cond (is_drain_of core step) 1 0) counted
    ∙ ap (λ x. drains_of core (drop from (take index history)) + cond (is_drain_of core x) 1 0) (sym here) ∙ sym next

-- none up to the first
pub drains_first : (core from : ℕ) (history : List (ℕ × Outcome)) → drains_of core (drop from (take from history)) ≡ 0
drains_first core from history =
    let size = length-take from history in
    let few = min-le_left from (length history) in
    ap (λ l. drains_of core l) (drop_all from (take from history) (omega (arith, size, few)))

-- and all of them
pub drains_all : (core from index : ℕ) (history : List (ℕ × Outcome)) → length history ≤ index
    → drains_of core (drop from (take index history)) ≡ drains_of core (drop from history)
drains_all core from index history all = ap (λ l. drains_of core (drop from l)) (take_all index history all)
