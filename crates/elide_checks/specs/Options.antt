-- The options whose values are conditions (docs/FORMATS.md, "Checks").
use Rattle.std.specs.Prelude.{ℕ, List, codes}
use Rattle.elide_checks.specs.declared.adding.ConditionOption.{ConditionOption}
use Rattle.elide_checks.specs.declared.adding.ConditionOption.TheVariants as option

abbrev pub option_name : ConditionOption → List ℕ
option_name option.Check = codes "--check"
option_name option.Forbid = codes "--forbid"
