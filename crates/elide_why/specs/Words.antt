-- Which code is told with a reason.
use Rattle.std.specs.Prelude.{◌≡◌, ℕ, Option, Some, None}
use Rattle.ia_image.specs.Program.{ProgramValue}
use Rattle.tm_model.specs.declared.explain.AbortReason.{AbortReason}
use Rattle.tm_model.specs.declared.explain.AbortReason.TheVariants as cause
use Rattle.tm_rule.specs.declared.kinds.Stop.TheVariants as stop
use Rattle.elide_why.specs.Subset.{code_from}
use Rattle.elide_why.specs.declared.outside.Outside.{Outside}

-- the program's code from the address on, where the reason is that it is none of the subset, and else nothing
pub record IsOutsideOf (program : ProgramValue) (why : AbortReason) (eip : ℕ) (found : Option Outside) : Type 0 where
  pub code : (outside : Outside) → found ≡ Some outside → outside.code.now ≡ code_from program eip
  pub address : (outside : Outside) → found ≡ Some outside → outside.address ≡ eip
  pub told : why ≡ cause.Stop stop.NotInSubset → found ≡ None → ⊥
  pub other : (outside : Outside) → found ≡ Some outside → why ≡ cause.Stop stop.NotInSubset
