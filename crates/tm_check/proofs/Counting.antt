-- One step more is counted, or not.
use Rattle.std.proofs.Common.{◌≡◌, ℕ, ◌+◌, true, false, List, Some, ◌∙◌, ap, sym, take}
use Rattle.std.proofs.lemmas.List.Sums.{count_by_more_no, count_by_more_yes}
use Rattle.std.proofs.lemmas.Option.{get_or_from_slice_get, slice_get_within}
use Rattle.std.specs.Prelude.{slice_get}
use Rattle.tm_model.specs.declared.outcome.Outcome.{Outcome}
use Rattle.tm_check.specs.Counts.{count_in, is_counted}
use Rattle.tm_check.specs.declared.count.Count.{Count}

pub counted : (count : Count) (history : List (ℕ × Outcome)) (index number : ℕ) (step : ℕ × Outcome)
    → slice_get history index ≡ Some step →
    is_counted count step ≡ true → number ≡ count_in count (take index history)
    → number + 1 ≡ count_in count (take (index + 1) history)
counted count history index number step at is before =
    ap (λ n. n + 1) before
    ∙ sym (count_by_more_yes (is_counted count) history index step (slice_get_within history index step at)
    (ap (is_counted count) (get_or_from_slice_get history index step step at) ∙ is))

pub not_counted : (count : Count) (history : List (ℕ × Outcome)) (index number : ℕ) (step : ℕ × Outcome)
    → slice_get history index ≡ Some step →
    is_counted count step ≡ false → number ≡ count_in count (take index history)
    → number ≡ count_in count (take (index + 1) history)
not_counted count history index number step at is before =
    before
    ∙ sym (count_by_more_no (is_counted count) history index step (slice_get_within history index step at)
    (ap (is_counted count) (get_or_from_slice_get history index step step at) ∙ is))
