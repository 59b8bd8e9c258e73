-- Rows of which only the core's own changes, and those of the cores that are hit.
use Rattle.std.proofs.Common.{◌≡◌, ℕ, ◌+◌, ◌<◌, ◌≤◌, ◌==◌, Bool, true, false, cond, List, length, get_or, set, Option}
use Rattle.std.proofs.Common.{Some, None, refl, sym, ap, ◌∙◌, arith}
use Rattle.std.specs.Option.{is_some, option_or}
use Rattle.std.proofs.lemmas.Bool.{eq-eqb, ne_eqb}
use Rattle.tm_model.specs.declared.explain.Hit.{Hit}
use Rattle.tm_model.specs.declared.outcome.Outcome.{Outcome}
use Rattle.tm_why.specs.Rows.{row_after, row_after_other, row_after_own, row_if_other}
use Rattle.tm_why.specs.Types.{Asked, MadeStore, StandingHit, Watched}
use Rattle.tm_why.specs.Watched.{hit_made, outside}
use Rattle.tm_why.proofs.FilledRows.{passed_next}
use borrow.Author.Count.{below_more}

or_none : (hit : Option StandingHit) → option_or hit None ≡ hit
or_none None = refl
or_none (Some hit) = refl

either : (b : Bool) (row other : Watched) → other ≡ row → cond b row other ≡ row
either true row other same = refl
either false row other same = same

pub not_some : (hit : Option Hit) → is_some hit ≡ false → hit ≡ None
not_some None e = refl
not_some (Some hit) e = cc

module _ (asked : Asked) (outcome : Outcome) (number : ℕ) (by : Option MadeStore) where
  -- one that is not hit
  pub other_none : (core : ℕ) (row : Watched) → hit_made (asked, outcome) core ≡ None →
      row_if_other core asked outcome number by row ≡ row
  other_none core row none =
      either (core == asked.core) row (row_after_other row (asked, outcome) (hit_made (asked, outcome) core) number by)
      (ap (λ hit. row_after_other row (asked, outcome) hit number by) none
      ∙ ap (λ hit. record { begun = row.begun; hit = hit }) (or_none row.hit))

  -- the core's own
  pub other_own : (core : ℕ) (row : Watched) → core ≡ asked.core → row_if_other core asked outcome number by row ≡ row
  other_own core row own =
      ap (λ b. cond b row (row_after_other row (asked, outcome) (hit_made (asked, outcome) core) number by))
      (eq-eqb core asked.core own)

  -- one of another core
  pub other_is : (core : ℕ) (row : Watched) → (core ≡ asked.core → ⊥) →
      row_after core asked outcome number by row ≡ row_if_other core asked outcome number by row
  other_is core row apart =
      ap (λ b. cond b (row_after_own row outcome number)
      (row_after_other row (asked, outcome) (hit_made (asked, outcome) core) number by))
      (ne_eqb core asked.core apart)
      ∙ sym
      (ap (λ b. cond b row (row_after_other row (asked, outcome) (hit_made (asked, outcome) core) number by))
      (ne_eqb core asked.core apart))

  -- ---- one row more

  abbrev others : ℕ → Watched → Watched
  others core row = row_if_other core asked outcome number by row

  -- that changes
  pub changed_next : (old rows : List Watched) (core : ℕ) (row : Watched) → core < length rows →
      (core ≡ asked.core → ⊥) → row ≡ row_after core asked outcome number by (get_or rows core outside) →
      ((k : ℕ) → k < core → get_or rows k outside ≡ others k (get_or old k outside)) →
      ((k : ℕ) → core ≤ k → get_or rows k outside ≡ get_or old k outside) →
      (k : ℕ) → k < core + 1 → get_or (set rows core row) k outside ≡ others k (get_or old k outside)
  changed_next old rows core row within apart is passed rest =
      let here : core ≤ core = omega arith in
      passed_next others rows old core row within passed
      (is ∙ other_is core (get_or rows core outside) apart ∙ ap (others core) (rest core here))

  -- that does not
  pub kept_next : (old rows : List Watched) (core : ℕ) →
      others core (get_or old core outside) ≡ get_or old core outside →
      ((k : ℕ) → k < core → get_or rows k outside ≡ others k (get_or old k outside)) →
      ((k : ℕ) → core ≤ k → get_or rows k outside ≡ get_or old k outside) →
      (k : ℕ) → k < core + 1 → get_or rows k outside ≡ others k (get_or old k outside)
  kept_next old rows core same passed rest =
      let here : core ≤ core = omega arith in
      below_more (λ (k : ℕ). get_or rows k outside ≡ others k (get_or old k outside)) core passed
      (rest core here ∙ sym same)
