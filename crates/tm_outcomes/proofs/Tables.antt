-- Tables of outcomes.
use Rattle.std.proofs.Common.{◌≡◌, ◌≢◌, ◌⊎◌, inl, inr, ℕ, zero, suc, ◌+◌, ◌<◌, List, [], ◌∷◌, ◌++◌, get_or, set, take}
use Rattle.std.proofs.Common.{length, refl, sym, subst, ◌∙◌, arith}
use Rattle.std.proofs.lemmas.List.{take_more}
use Rattle.tm_outcomes.specs.Outcomes.{AreDistinct, AreTold}
use Rattle.tm_outcomes.specs.declared.table.FoundOutcome.{FoundOutcome}

pub told_at : (table : List FoundOutcome) (index : ℕ) (other : FoundOutcome) → index < length table
    → AreTold table (get_or table index other).values.items
told_at [] index other below = absurd (omega arith)
told_at (told ∷ table) zero other below = inl refl
told_at (told ∷ table) (suc index) other below = inr (told_at table index other (omega arith))

pub told_last : (table : List FoundOutcome) (told : FoundOutcome) → AreTold (table ++ told ∷ []) told.values.items
told_last [] told = inl refl
told_last (first ∷ table) told = inr (told_last table told)

pub told_more : (table more : List FoundOutcome) (values : List ℕ) → AreTold table values
    → AreTold (table ++ more) values
told_more [] more values here = elim here [ ]
told_more (told ∷ table) more values (inl same) = inl same
told_more (told ∷ table) more values (inr behind) = inr (told_more table more values behind)

pub told_set : (table : List FoundOutcome) (index : ℕ) (told other : FoundOutcome) (values : List ℕ)
    → index < length table →
    told.values.items ≡ (get_or table index other).values.items → AreTold table values
    → AreTold (set table index told) values
told_set [] index told other values below same _ = absurd (omega arith)
told_set (first ∷ table) zero told other values below same (inl here) = inl (same ∙ here)
told_set (first ∷ table) zero told other values below same (inr behind) = inr behind
told_set (first ∷ table) (suc index) told other values below same (inl here) = inl here
told_set (first ∷ table) (suc index) told other values below same (inr behind) =
    inr (told_set table index told other values (omega arith) same behind)

-- what is told with one more is that one, or was told
told_either : (table : List FoundOutcome) (told : FoundOutcome) (values : List ℕ) → AreTold (table ++ told ∷ []) values
    → AreTold table values ⊎ (told.values.items ≡ values)
told_either [] told values (inl same) = inr same
told_either [] told values (inr none) = elim none [ ]
told_either (first ∷ table) told values (inl same) = inl (inl same)
told_either (first ∷ table) told values (inr behind) = elim (told_either table told values behind) [
  | inl here ↦ inl (inr here)
  | inr same ↦ inr same
]

pub distinct_more : (table : List FoundOutcome) (told : FoundOutcome) → AreDistinct table
    → ¬ AreTold table told.values.items
    → AreDistinct (table ++ told ∷ [])
distinct_more [] told once new = ((λ none. elim none [ ]), tt)
distinct_more (first ∷ table) told once new = (
  (λ twice. elim (told_either table told first.values.items twice) [
    | inl here ↦ once.0 here
    | inr same ↦ new (inl (sym same))
  ]),
  distinct_more table told once.1 (λ here. new (inr here)),
)

-- what is told where one was replaced by another with the same values was told
told_back : (table : List FoundOutcome) (index : ℕ) (told other : FoundOutcome) (values : List ℕ)
    → index < length table →
    told.values.items ≡ (get_or table index other).values.items → AreTold (set table index told) values
    → AreTold table values
told_back [] index told other values below same _ = absurd (omega arith)
told_back (first ∷ table) zero told other values below same (inl here) = inl (sym same ∙ here)
told_back (first ∷ table) zero told other values below same (inr behind) = inr behind
told_back (first ∷ table) (suc index) told other values below same (inl here) = inl here
told_back (first ∷ table) (suc index) told other values below same (inr behind) =
    inr (told_back table index told other values (omega arith) same behind)

pub distinct_set : (table : List FoundOutcome) (index : ℕ) (told other : FoundOutcome) → index < length table →
    told.values.items ≡ (get_or table index other).values.items → AreDistinct table → AreDistinct (set table index told)
distinct_set [] index told other below same _ = absurd (omega arith)
distinct_set (first ∷ table) zero told other below same once =
    (subst (λ (v : List ℕ). ¬ AreTold table v) (sym same) once.0, once.1)
distinct_set (first ∷ table) (suc index) told other below same once = (
  (λ twice. once.0 (told_back table index told other first.values.items (omega arith) same twice)),
  distinct_set table index told other (omega arith) same once.1,
)

-- no outcome so far has these values, nor has the next
pub untold_more : (table : List FoundOutcome) (index : ℕ) (other : FoundOutcome) (values : List ℕ)
    → index < length table
    → ¬ AreTold (take index table) values →
    (get_or table index other).values.items ≢ values → ¬ AreTold (take (index + 1) table) values
untold_more table index other values below none differs told =
    elim (told_either (take index table) (get_or table index other) values
    (subst (λ (t : List FoundOutcome). AreTold t values) (take_more table index other below) told)) [
      | inl here ↦ none here
      | inr same ↦ differs same
    ]
