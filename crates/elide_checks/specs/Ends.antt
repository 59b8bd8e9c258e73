-- The checks of the ends of all schedules, as the options say them (docs/FORMATS.md, "Outcomes"): conditions as those
-- of a run, but for its counts.
use Rattle.std.specs.Prelude.{◌≡◌, ℕ, Bool, List, ◌++◌, map}
use Rattle.std.specs.Borrow.{Bor}
use Rattle.std.specs.List.{AllZip}
use Rattle.elide_program.specs.declared.file.ProgramFile.{ProgramFile}
use Rattle.tm_check.specs.declared.clause.RunClause.TheVariants.{OfMachine}
use Rattle.tm_condition.specs.declared.check.Check.{Check}
use Rattle.tm_condition.specs.declared.check.Check.TheVariants.{Demanded, Forbidden}
use Rattle.tm_condition.specs.declared.clause.Clause.{Clause}
use Rattle.elide_checks.specs.Conditions.{IsCondition}
use Rattle.elide_checks.specs.Constants.{is_constant}
use Rattle.elide_checks.specs.declared.adding.ConditionOption.{ConditionOption}
use Rattle.elide_checks.specs.declared.adding.ConditionOption.TheVariants as option

-- a text says these conditions, which are on a machine alone
abbrev pub IsOfMachine : ProgramFile → (List ℕ → Bool) → List ℕ → List Clause → Type 0
IsOfMachine file constants text clauses = IsCondition file constants text (map OfMachine clauses)

-- the check of a `--check`: its condition is to hold
abbrev pub IsEndDemanded : ProgramFile → (List ℕ → Bool) → List ℕ → Check → Type 0
IsEndDemanded file constants text (Demanded clauses) = IsOfMachine file constants text clauses.items
IsEndDemanded file constants text (Forbidden clauses) = ⊥

-- that of a `--forbid`: its condition is not to hold
abbrev pub IsEndForbidden : ProgramFile → (List ℕ → Bool) → List ℕ → Check → Type 0
IsEndForbidden file constants text (Demanded clauses) = ⊥
IsEndForbidden file constants text (Forbidden clauses) = IsOfMachine file constants text clauses.items

-- that of a condition which is the value of one of these two
abbrev pub IsEndCheckOf : ProgramFile → (List ℕ → Bool) → ConditionOption → List ℕ → Check → Type 0
IsEndCheckOf file constants option.Check = IsEndDemanded file constants
IsEndCheckOf file constants option.Forbid = IsEndForbidden file constants

-- those of `--check`, and behind them those of `--forbid`, each in the order of the command line, by the symbols of a
-- program and a test which of them are numbers
pub record AreEndChecksBy (file : ProgramFile) (constants : List ℕ → Bool) (demands forbids : List (Bor (List ℕ)))
    (checks : List Check) : Type 0 where
  pub demanded : List Check
  pub forbidden : List Check
  pub whole : checks ≡ demanded ++ forbidden
  pub of_demanded : AllZip (λ text check. IsEndDemanded file constants text.now check) demands demanded
  pub of_forbidden : AllZip (λ text check. IsEndForbidden file constants text.now check) forbids forbidden

-- by the symbols of the program that a text is read as
abbrev pub AreEndChecks : List ℕ → ProgramFile → List (Bor (List ℕ)) → List (Bor (List ℕ)) → List Check → Type 0
AreEndChecks text file demands forbids checks = AreEndChecksBy file (is_constant text file) demands forbids checks
