-- The checks that the options say (docs/FORMATS.md, "Checks").
use Rattle.std.specs.Prelude.{◌≡◌, ℕ, Bool, true, false, List, [], ◌∷◌, ◌++◌}
use Rattle.std.specs.List.{AllZip}
use Rattle.elide_args.specs.declared.hunt_options.HuntOptions.{HuntOptions}
use Rattle.elide_program.specs.declared.file.ProgramFile.{ProgramFile}
use Rattle.tm_hist.specs.Lines.{stop_word}
use Rattle.tm_rule.specs.declared.kinds.Stop.{Stop}
use Rattle.tm_check.specs.declared.check.Check.{Check}
use Rattle.tm_check.specs.declared.check.Check.TheVariants.{Demanded, Forbidden, NoStop, AllStop}
use Rattle.elide_checks.specs.Conditions.{IsCondition}
use Rattle.elide_checks.specs.Constants.{is_constant}
use Rattle.elide_checks.specs.declared.adding.ConditionOption.{ConditionOption}
use Rattle.elide_checks.specs.declared.adding.ConditionOption.TheVariants as option

-- the check of a `--check`: its condition is to hold
abbrev pub IsDemanded : ProgramFile → (List ℕ → Bool) → List ℕ → Check → Type 0
IsDemanded file constants text (Demanded clauses) = IsCondition file constants text clauses.items
IsDemanded file constants text (Forbidden clauses) = ⊥
IsDemanded file constants text (NoStop why) = ⊥
IsDemanded file constants text AllStop = ⊥

-- that of a `--forbid`: its condition is not to hold
abbrev pub IsForbidden : ProgramFile → (List ℕ → Bool) → List ℕ → Check → Type 0
IsForbidden file constants text (Demanded clauses) = ⊥
IsForbidden file constants text (Forbidden clauses) = IsCondition file constants text clauses.items
IsForbidden file constants text (NoStop why) = ⊥
IsForbidden file constants text AllStop = ⊥

-- that of a condition which is the value of one of these two
abbrev pub IsCheckOf : ProgramFile → (List ℕ → Bool) → ConditionOption → List ℕ → Check → Type 0
IsCheckOf file constants option.Check = IsDemanded file constants
IsCheckOf file constants option.Forbid = IsForbidden file constants

-- that of a `--stop`: no stop for the reason of this word
abbrev pub IsStopCheck : List ℕ → Check → Type 0
IsStopCheck word check = (why : Stop) × (check ≡ NoStop why) × (stop_word why ≡ word)

-- that of `--expect-halt`
abbrev pub halt_checks : Bool → List Check
halt_checks true = AllStop ∷ []
halt_checks false = []

-- those of `--check`, of `--forbid`, of `--stop`, and of `--expect-halt`, each in the order of the command line, by the
-- symbols of a program and a test which of them are numbers
pub record AreChecksBy (file : ProgramFile) (constants : List ℕ → Bool) (options : HuntOptions) (checks : List Check)
    : Type 0 where
  pub demanded : List Check
  pub forbidden : List Check
  pub stops : List Check
  pub whole : checks ≡ demanded ++ (forbidden ++ (stops ++ halt_checks options.expects_halt))
  pub of_demanded : AllZip (λ text check. IsDemanded file constants text.now check) options.checks.items demanded
  pub of_forbidden : AllZip (λ text check. IsForbidden file constants text.now check) options.forbids.items forbidden
  pub of_stops : AllZip (λ word check. IsStopCheck word.now check) options.stops.items stops

-- by the symbols of the program that a text is read as
abbrev pub AreChecks : List ℕ → ProgramFile → HuntOptions → List Check → Type 0
AreChecks text file options checks = AreChecksBy file (is_constant text file) options checks
