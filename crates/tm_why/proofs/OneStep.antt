-- What a row becomes by one step is what the definitions say of a list with that step in front.
use Rattle.std.proofs.Common.{◌≡◌, ℕ, suc, ◌==◌, ◌<◌, Bool, true, false, if◌then◌else◌, List, ◌∷◌, length, get_or}
use Rattle.std.proofs.Common.{Option, refl, ap, ◌∙◌}
use Rattle.std.specs.Option.{option_or}
use Rattle.tm_model.specs.declared.outcome.Outcome.{Outcome}
use Rattle.tm_why.specs.Types.{Asked, MadeStore, StandingHit, Watched}
use Rattle.tm_why.specs.Watched.{Told, begun_by, begun_in, drained_store, hit_in, hit_made, left_by, outside, queue_in}
use Rattle.tm_why.specs.Watched.{standing, watched_in}
use Rattle.tm_why.specs.Rows.{row_after}

abbrev row_of : Option ℕ → Option StandingHit → Watched
row_of begun hit = record { begun = begun; hit = hit }

by_field : (b : Bool) (p q : Option ℕ) (r s : Option StandingHit) →
    (if b then row_of p r else row_of q s) ≡ row_of (if b then p else q) (if b then r else s)
by_field true p q r s = refl
by_field false p q r s = refl

pub row_after_is : (most core : ℕ) (asked : Asked) (outcome : Outcome) (steps : List Told) →
    row_after core asked outcome (suc (length steps)) (drained_store (asked, outcome) (queue_in most asked.core steps))
    (watched_in most core steps)
    ≡ watched_in most core ((asked, outcome) ∷ steps)
row_after_is most core asked outcome steps =
    by_field (core == asked.core)
    (begun_by outcome (suc (length steps)) (begun_in core steps)) (begun_in core steps)
    (left_by outcome (hit_in most core steps))
    (option_or (hit_in most core steps)
    (standing (suc (length steps)) (asked, outcome)
    (drained_store (asked, outcome) (queue_in most asked.core steps)) (hit_made (asked, outcome) core)))

-- so for the rows of all cores
pub one_step : (most : ℕ) (rows news : List Watched) (asked : Asked) (outcome : Outcome) (number : ℕ)
    (by : Option MadeStore) (steps : List Told) →
    ((core : ℕ) → core < 64 →
    get_or news core outside ≡ row_after core asked outcome number by (get_or rows core outside)) →
    ((core : ℕ) → core < 64 → get_or rows core outside ≡ watched_in most core steps) →
    number ≡ suc (length steps) → by ≡ drained_store (asked, outcome) (queue_in most asked.core steps) →
    (core : ℕ) → core < 64 → get_or news core outside ≡ watched_in most core ((asked, outcome) ∷ steps)
one_step most rows news asked outcome number by steps new old same oldest core h =
    new core h
    ∙ ap (λ (n : ℕ). row_after core asked outcome n by (get_or rows core outside)) same
    ∙ ap (λ (b : Option MadeStore). row_after core asked outcome (suc (length steps)) b (get_or rows core outside))
    oldest
    ∙ ap (λ (row : Watched). row_after core asked outcome (suc (length steps))
    (drained_store (asked, outcome) (queue_in most asked.core steps)) row) (old core h)
    ∙ row_after_is most core asked outcome steps
