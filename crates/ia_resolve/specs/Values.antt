-- What an expression counts as, and what is wrong with it.
use Rattle.std.specs.Prelude.{not, ◌||◌, if◌then◌else◌, is_some, Option, Some, None, ℤ, pos}
use Rattle.ia_item.specs.declared.expression.ScopedExpression.{ScopedExpression}
use Rattle.ia_item.specs.Expressions.{Env, any_unknown, any_huge, sum_from}
use Rattle.ia_item.specs.Fields.{within}
use Rattle.ia_resolve.specs.declared.place_fault.PlaceFault.{PlaceFault}
use Rattle.ia_resolve.specs.declared.place_fault.PlaceFault.TheVariants.{UnknownSymbol, Range}

abbrev pub total : Env → ScopedExpression → ℤ
total env s = sum_from env (pos 0) s.terms.items

-- what is wrong with an expression whose value has to be from low to high
unfoldable pub sum_fault : Env → ℤ → ℤ → ScopedExpression → Option PlaceFault
sum_fault env low high s =
    if any_unknown env s.terms.items then Some UnknownSymbol
    else if any_huge s.terms.items || not (within low high (total env s)) then Some Range
    else None

-- its value; with a fault it counts as 0
unfoldable pub value_or_zero : Env → ℤ → ℤ → ScopedExpression → ℤ
value_or_zero env low high s = if is_some (sum_fault env low high s) then pos 0 else total env s
