-- Whose turn it is, round by round.
use Rattle.std.specs.Prelude.{◌<◌, ◌≤◌, ◌+◌, ℕ, List, Contains, Option, Some, None}

-- the least of these cores from a number on, and the least of all where each is below it
pub record IsNextFrom (number : ℕ) (going : List ℕ) (core : ℕ) : Type 0 where
  pub among : Contains going core
  pub ahead : (other : ℕ) → Contains going other → number ≤ other → (number ≤ core) × (core ≤ other)
  pub around : core < number → (other : ℕ) → Contains going other → core ≤ other

-- the next core behind the one that stepped last, and the first of all before the first step
abbrev pub IsInTurn : Option ℕ → List ℕ → ℕ → Type 0
IsInTurn None going core = IsNextFrom 0 going core
IsInTurn (Some last) going core = IsNextFrom (last + 1) going core
