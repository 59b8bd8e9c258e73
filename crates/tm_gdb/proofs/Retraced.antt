-- Steps of a history, made once more and taken back.
use Rattle.std.proofs.Common.{◌≡◌, ℕ, ◌+◌, ◌-◌, ◌<◌, suc, Option, Some, None, List, inl, inr, sym, ◌∙◌, subst, arith}
use Rattle.std.specs.List.{slice_get}
use Rattle.std.proofs.Math.Nat.{eq-or-lt_of_le}
use Rattle.tm_hist.specs.Board.{ShownBoard}
use Rattle.tm_model.specs.declared.outcome.Outcome.{Outcome}
use Rattle.tm_gdb.specs.declared.back.Place.{Place}
use Rattle.tm_gdb.specs.declared.stop.Stop.{Stop}
use Rattle.tm_gdb.specs.declared.stop.Stop.TheVariants.{Begin}
use Rattle.tm_gdb.specs.Back.{EndsBack, HasNoneFrom, IsAgain, IsLastOf, back_told}
use Rattle.tm_gdb.specs.Back.EndsBack.{begins, ends, goes_on}
use Rattle.tm_gdb.specs.Values.{TargetValue, moved_core}

-- with no step made a run back ends at the beginning
pub begins_at : (from : TargetValue) (core : ℕ) → core ≡ moved_core from
    → EndsBack from 0 (record { made = 0; core = core; stop = Begin })
begins_at from core is = subst (λ n. EndsBack from 0 (record { made = 0; core = n; stop = Begin })) (sym is) begins

-- one step more at which a run back ends, or does not
pub ends_more : (from : TargetValue) (made core : ℕ) (stop : Stop) (before after : ShownBoard)
    → IsAgain from.board made core before after → back_told from core before after ≡ Some stop
    → EndsBack from (made + 1) (record { made = made; core = core; stop = stop })
ends_more from made core stop before after again told =
    let place : Place = record { made = made; core = core; stop = stop } in
    let count : suc made ≡ made + 1 = omega arith in
    subst (λ n. EndsBack from n place) count (ends again told)

pub passes_more : (from : TargetValue) (made core : ℕ) (place : Place) (before after : ShownBoard) (told : Option Stop)
    → IsAgain from.board made core before after → told ≡ back_told from core before after → told ≡ None
    → EndsBack from made place → EndsBack from (made + 1) place
passes_more from made core place before after told again is none so_far =
    let count : suc made ≡ made + 1 = omega arith in
    subst (λ n. EndsBack from n place) count (goes_on again (sym is ∙ none) so_far)

-- a place more is not the core's
pub none_more : (core : ℕ) (history : List (ℕ × Outcome)) (place : ℕ) → 0 < place → HasNoneFrom core history place
    → ((outcome : Outcome) → slice_get history (place - 1) ≡ Some (core, outcome) → ⊥)
    → HasNoneFrom core history (place - 1)
none_more core history place some none other later below outcome at =
    elim (eq-or-lt_of_le below) [
      | inl e ↦ other outcome (subst (λ n. slice_get history n ≡ Some (core, outcome)) (sym e) at)
      | inr lt ↦ none later (omega arith) outcome at
    ]

-- the place before is the core's last
pub last_of : (core : ℕ) (history : List (ℕ × Outcome)) (place : ℕ) → 0 < place → HasNoneFrom core history place
    → ((outcome : Outcome) × (slice_get history (place - 1) ≡ Some (core, outcome))) → IsLastOf core history (place - 1)
last_of core history place some none own =
    let next : place ≡ (place - 1) + 1 = omega arith in
    record { outcome = own.0; own = own.1; others = subst (λ n. HasNoneFrom core history n) next none }
