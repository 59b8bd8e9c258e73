-- One term more of a sum.
use Rattle.std.proofs.Common.{◌≡◌, ◌∙◌, ℕ, ◌+◌, ◌-◌, ◌%◌, ◌^◌, ◌<◌, ◌≤◌, List, [], ◌∷◌, ◌++◌, ap, sym, subst, take}
use Rattle.std.proofs.Common.{drop, length, arith}
use Rattle.std.proofs.Common.{slice_index_or, append-nil, take_all}
use Rattle.std.specs.Prelude.{Option, Some, None, option_map}
use Rattle.elide_program.specs.Sums.{BeginsWithSign, HasNoSign, IsSumBehind, IsTerm, signed}
use Rattle.elide_program.specs.declared.file.ProgramFile.{ProgramFile}

-- what stands behind a sign comes onto the sum so far
abbrev pub GoesOn : ProgramFile → ℕ → List ℕ → ℕ → ℕ → List ℕ → Type 0
GoesOn file first text sum sign rest = (value : Option ℕ) → IsSumBehind file sign rest value
    → IsSumBehind file first text (option_map (λ v. (sum + v) % 2 ^ 32) value)

with_rest : (x y : ℕ) → (x + y % 2 ^ 32) % 2 ^ 32 ≡ (x + y) % 2 ^ 32
with_rest x y = omega arith

regrouped : (x y z : ℕ) → (x + (y + z) % 2 ^ 32) % 2 ^ 32 ≡ ((x + y) % 2 ^ 32 + z) % 2 ^ 32
regrouped x y z = omega arith

pub ended : (file : ProgramFile) (first sign sum value total : ℕ) (text rest term others : List ℕ)
    → GoesOn file first text sum sign rest
    → rest ≡ term ++ others → HasNoSign term → IsTerm file term (Some value) → length others < 1
    → total ≡ (sum + signed sign value) % 2 ^ 32 → IsSumBehind file first text (Some total)
ended file first sign sum value total text rest term [] go e none is h t =
    let all : rest ≡ term = e ∙ append-nil term in
    let it = go (Some (signed sign value % 2 ^ 32))
    (subst (λ l. IsSumBehind file sign l (Some (signed sign value % 2 ^ 32))) (sym all) (IsSumBehind.alone none is)) in
    subst (λ v. IsSumBehind file first text (Some v)) (with_rest sum (signed sign value) ∙ sym t) it
ended file first sign sum value total text rest term (b ∷ bs) go e none is h t = absurd (omega (arith, h))

pub failed : (file : ProgramFile) (first sign sum : ℕ) (text rest term others : List ℕ)
    → GoesOn file first text sum sign rest
    → rest ≡ term ++ others → HasNoSign term → IsTerm file term None → BeginsWithSign others
    → IsSumBehind file first text None
failed file first sign sum text rest term others go e none is begins =
    go None (subst (λ l. IsSumBehind file sign l None) (sym e) (IsSumBehind.wrong term others none is begins))

pub goes_on : (file : ProgramFile) (first sign sum value total : ℕ) (text rest term others : List ℕ)
    → GoesOn file first text sum sign rest
    → rest ≡ term ++ others → HasNoSign term → IsTerm file term (Some value) → BeginsWithSign others → 1 ≤ length others
    → total ≡ (sum + signed sign value) % 2 ^ 32
    → GoesOn file first text total (slice_index_or others 0 0) (take (length others - 1) (drop 1 others))
goes_on file first sign sum value total text rest term [] go e none is begins h t = absurd (omega (arith, h))
goes_on file first sign sum value total text rest term (b ∷ bs) go e none is begins h t = more where
  here : (behind : List ℕ) → behind ≡ bs → (v : Option ℕ) → IsSumBehind file b behind v
      → IsSumBehind file first text (option_map (λ s. (total + s) % 2 ^ 32) v)
  here behind same None is_sum = go None (subst (λ l. IsSumBehind file sign l None) (sym e)
      (IsSumBehind.more term value b bs None none is (begins (omega arith))
      (subst (λ l. IsSumBehind file b l None) same is_sum)))
  here behind same (Some s) is_sum =
      let it = go (Some ((signed sign value + s) % 2 ^ 32))
      (subst (λ l. IsSumBehind file sign l (Some ((signed sign value + s) % 2 ^ 32))) (sym e)
      (IsSumBehind.more term value b bs (Some s) none is (begins (omega arith))
      (subst (λ l. IsSumBehind file b l (Some s)) same is_sum))) in
      subst (λ v. IsSumBehind file first text (Some v))
      (regrouped sum (signed sign value) s ∙ ap (λ n. (n + s) % 2 ^ 32) (sym t)) it

  more : GoesOn file first text total b (take (length (b ∷ bs) - 1) bs)
  more = here (take (length (b ∷ bs) - 1) bs) (take_all (length (b ∷ bs) - 1) bs (omega arith))
