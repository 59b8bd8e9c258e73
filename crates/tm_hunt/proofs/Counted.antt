-- One more run has passed.
use Rattle.std.proofs.Common.{◌≡◌, ℕ, suc, ◌+◌, arith, subst, sym}
use Rattle.tm_hist.specs.Board.{ShownBoard as Board}
use Rattle.tm_hunt.specs.Attempts.{HavePassed, IsAttempt, one_cut, one_ended}
use Rattle.tm_hunt.specs.declared.attempt.Attempt.{Attempt}
use Rattle.tm_hunt.specs.declared.attempt.Attempt.TheVariants.{Cut, Ended}
use Rattle.tm_hunt.specs.declared.trial.Trial.{Trial}

module _ (trial : Trial) (made : ℕ → Board → Type 0) (first ended cut all_ended all_cut run : ℕ) where
  pub ended_more : all_ended ≡ ended + 1 → all_cut ≡ cut → first + (ended + cut) ≡ run
      → HavePassed trial made first ended cut → (attempt : Attempt) → attempt ≡ Ended →
      IsAttempt trial (made run) attempt → HavePassed trial made first all_ended all_cut
  ended_more e c at before attempt is h =
      let one : suc ended ≡ all_ended = omega (arith, e) in
      let this : IsAttempt trial (made run) Ended = subst (IsAttempt trial (made run)) is h in
      subst (λ (n : ℕ). HavePassed trial made first n all_cut) one
      (subst (λ (n : ℕ). HavePassed trial made first (suc ended) n) (sym c)
      (one_ended before (subst (λ (n : ℕ). IsAttempt trial (made n) Ended) (sym at) this)))

  pub cut_more : all_ended ≡ ended → all_cut ≡ cut + 1 → first + (ended + cut) ≡ run
      → HavePassed trial made first ended cut → (attempt : Attempt) → attempt ≡ Cut →
      IsAttempt trial (made run) attempt → HavePassed trial made first all_ended all_cut
  cut_more e c at before attempt is h =
      let one : suc cut ≡ all_cut = omega (arith, c) in
      let this : IsAttempt trial (made run) Cut = subst (IsAttempt trial (made run)) is h in
      subst (λ (n : ℕ). HavePassed trial made first n all_cut) (sym e)
      (subst (λ (n : ℕ). HavePassed trial made first ended n) one
      (one_cut before (subst (λ (n : ℕ). IsAttempt trial (made n) Cut) (sym at) this)))
