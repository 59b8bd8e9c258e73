-- Which steps of a run are asked for, by `--from` and `--to` (docs/FORMATS.md, "Pictures" and "Pages").
use Rattle.std.specs.Prelude.{◌≡◌, ℕ, ◌+◌, ◌<◌, ◌≤◌, ◌⊎◌, min, List, Option, Some, None, IsSome, MatchOption, codes}
use Rattle.elide_program.specs.Settings.{number_said}
use Rattle.elide_setup.specs.Misuse.{IsMisuse}
use Rattle.elide_setup.specs.declared.fault.Refusal.{Refusal}

-- ---- those that there are

-- so many steps of a run come before the first that is asked for, which it has
abbrev pub ComeBefore : Option ℕ → ℕ → ℕ → Type 0
ComeBefore from total before = MatchOption from (before ≡ 0) (λ number. (before + 1 ≡ number) × (number ≤ total))

-- so many come before the one behind the last that is asked for, of which some stand behind the first so many: all of
-- the run, where none is asked for or one that lies behind them
abbrev pub ComeUpTo : Option ℕ → ℕ → ℕ → ℕ → Type 0
ComeUpTo to before total last = MatchOption to (last ≡ total) (λ number. (before < number) × (last ≡ min number total))

-- ---- why there are none

-- an option is given, and its value is no number
pub record IsNoNumber (name : List ℕ) (text : Option (List ℕ)) (why : Refusal) : Type 0 where
  pub given : IsSome text
  pub none : number_said text ≡ None
  pub named : IsMisuse name why

-- a run of so many steps does not have the first that is asked for
pub record HasNoFirst (from : Option ℕ) (total : ℕ) (why : Refusal) : Type 0 where
  pub number : ℕ
  pub asked : from ≡ Some number
  pub outside : (number ≡ 0) ⊎ (total < number)
  pub named : IsMisuse (codes "--from") why

-- the last that is asked for is one of so many that come before the first
pub record IsLastBefore (to : Option ℕ) (before : ℕ) (why : Refusal) : Type 0 where
  pub number : ℕ
  pub asked : to ≡ Some number
  pub early : number ≤ before
  pub named : IsMisuse (codes "--to") why
