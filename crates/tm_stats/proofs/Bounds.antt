-- No count is above the number of steps, but the steps lost, which are below 2^32 times as many.
use Rattle.std.proofs.Common.{ℕ, ◌+◌, ◌*◌, ◌^◌, ◌<◌, ◌≤◌, Bool, true, false, ◌&&◌, List, [], ◌∷◌, length, nat_eq}
use Rattle.std.proofs.Common.{if◌then◌else◌, arith}
use Rattle.tm_model.specs.declared.outcome.Outcome.{Outcome}
use Rattle.tm_model.specs.declared.outcome.Outcome.TheVariants.{Begun, Inside, Drained}
use Rattle.tm_stats.specs.Counts.{commits_of, how_many, is_aborted, is_committed, lost_at, open_after, open_steps}
use Rattle.tm_stats.specs.Tally.{counted}
use Rattle.tm_stats.specs.declared.step.Step.{Step}

pub counted-le : (test : Bool) (n m : ℕ) → n ≤ m → counted test n ≤ m + 1
counted-le true n m h = omega arith
counted-le false n m h = omega arith

pub how_many-le : (test : Step → Bool) (steps : List Step) → how_many test steps ≤ length steps
how_many-le test [] = omega arith
how_many-le test (step ∷ steps) = omega (arith, counted-le (test step) _ _ (how_many-le test steps))

pub commits_of-le : (size_of : Step → List Step → ℕ) (place size : ℕ) (steps : List Step)
    → commits_of size_of place size steps ≤ length steps
commits_of-le size_of place size [] = omega arith
commits_of-le size_of place size (step ∷ steps) =
    omega (
      arith,
      counted-le
          (is_committed step.outcome && (nat_eq step.place place && nat_eq (size_of step steps) size)) _ _
          (commits_of-le size_of place size steps),
    )

open_after-le : (outcome : Outcome) (n m : ℕ) → n ≤ m → open_after outcome n ≤ m + 1
open_after-le Begun n m h = omega arith
open_after-le Inside n m h = omega arith
open_after-le Drained n m h = omega arith
open_after-le outcome n m h = omega arith

under-le : (own : Bool) (outcome : Outcome) (n m : ℕ) → n ≤ m → (if own then open_after outcome n else n) ≤ m + 1
under-le true outcome n m h = open_after-le outcome n m h
under-le false outcome n m h = omega arith

own-le : (own : Bool) (a b m : ℕ) → a ≤ m → b ≤ m → (if own then a else b) ≤ m
own-le true a b m h k = h
own-le false a b m h k = k

pub open_steps-le : (core : ℕ) (steps : List Step) → open_steps core steps ≤ length steps
open_steps-le core [] = omega arith
open_steps-le core (step ∷ steps) =
    omega (arith, under-le (nat_eq step.core core) step.outcome _ _ (open_steps-le core steps))

lost-more : (aborted : Bool) (lost before n : ℕ) → lost ≤ n * 2 ^ 32 → before ≤ n → n + 1 < 2 ^ 32
    → (if aborted then lost + (before + 1) else lost) ≤ (n + 1) * 2 ^ 32
lost-more true lost before n h k few = omega arith
lost-more false lost before n h k few = omega arith

pub lost-le : (place : ℕ) (steps : List Step) → length steps < 2 ^ 32 → lost_at place steps ≤ length steps * 2 ^ 32
lost-le place [] few = omega arith
lost-le place (step ∷ steps) few =
    let rest : lost_at place steps ≤ length steps * 2 ^ 32 = lost-le place steps (omega arith) in
    omega (
      arith,
      lost-more (is_aborted step.outcome && nat_eq step.place place) _ _ _ rest
          (open_steps-le step.core steps) (omega arith),
    )
