-- The beginning of a schedule is no less simple than the whole.
use Rattle.std.proofs.Common.{ℕ, zero, suc, ◌≤◌, List, [], ◌∷◌, take, length, arith}
use Rattle.tm_model.specs.declared.outcome.Pick.{Pick}
use Rattle.tm_hunt.specs.Cost.{cost_of, events_in, switches_behind, switches_of}

switches_front : (last count : ℕ) (picks : List Pick) →
    switches_behind last (take count picks) ≤ switches_behind last picks
switches_front last zero picks = omega arith
switches_front last (suc count) [] = omega arith
switches_front last (suc count) (pick ∷ picks) =
    let rest = switches_front pick.core count picks in
    omega arith

switches_from : (count : ℕ) (picks : List Pick) → switches_of (take count picks) ≤ switches_of picks
switches_from zero picks = omega arith
switches_from (suc count) [] = omega arith
switches_from (suc count) (pick ∷ picks) = switches_front pick.core count picks

events_front : (count : ℕ) (picks : List Pick) → events_in (take count picks) ≤ events_in picks
events_front zero picks = omega arith
events_front (suc count) [] = omega arith
events_front (suc count) (pick ∷ picks) =
    let rest = events_front count picks in
    omega arith

steps_front : (count : ℕ) (picks : List Pick) → length (take count picks) ≤ length picks
steps_front zero picks = omega arith
steps_front (suc count) [] = omega arith
steps_front (suc count) (pick ∷ picks) =
    let rest = steps_front count picks in
    omega arith

pub cost_front : (count : ℕ) (picks : List Pick) → cost_of (take count picks) ≤ cost_of picks
cost_front count picks =
    let steps = steps_front count picks in
    let switches = switches_from count picks in
    let events = events_front count picks in
    omega arith
