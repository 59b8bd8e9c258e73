-- Sums of numbers and symbols, in whole numbers.
use Rattle.std.specs.Prelude.{Bool, true, false, not, ◌||◌, is_some, Option, Some, None, List, [], ◌∷◌, ℤ, pos, ◌+ℤ◌}
use Rattle.std.specs.Prelude.{◌-ℤ◌, if◌then◌else◌}
use Rattle.ia_item.specs.declared.symbol.Symbol.{Symbol as SymbolOf}
use Rattle.ia_item.specs.declared.expression.ScopedAtom.{ScopedAtom}
use Rattle.ia_item.specs.declared.expression.ScopedAtom.TheVariants.{Number, Huge, Symbol}
use Rattle.ia_item.specs.declared.expression.ScopedTerm.{ScopedTerm}
use Rattle.ia_item.specs.declared.expression.ScopedExpression.{ScopedExpression}

-- the value of each symbol that is known
abbrev pub Env : Type 0
Env = SymbolOf → Option ℤ

abbrev pub is_symbol : ScopedAtom → Bool
is_symbol (Number n) = false
is_symbol Huge = false
is_symbol (Symbol s) = true

-- a symbol stands among the terms
abbrev pub any_symbol : List ScopedTerm → Bool
any_symbol [] = false
any_symbol (p ∷ ps) = is_symbol p.atom || any_symbol ps

-- the expression has a symbol, so that its field is wide
abbrev pub is_wide : ScopedExpression → Bool
is_wide s = any_symbol s.terms.items

abbrev pub is_unknown : Env → ScopedAtom → Bool
is_unknown env (Number n) = false
is_unknown env Huge = false
is_unknown env (Symbol s) = not (is_some (env s))

-- a symbol among the terms has no value
abbrev pub any_unknown : Env → List ScopedTerm → Bool
any_unknown env [] = false
any_unknown env (p ∷ ps) = is_unknown env p.atom || any_unknown env ps

abbrev pub is_huge : ScopedAtom → Bool
is_huge (Number n) = false
is_huge Huge = true
is_huge (Symbol s) = false

-- a number among the terms is above 2^64 - 1
abbrev pub any_huge : List ScopedTerm → Bool
any_huge [] = false
any_huge (p ∷ ps) = is_huge p.atom || any_huge ps

abbrev pub or_zero : Option ℤ → ℤ
or_zero None = pos 0
or_zero (Some v) = v

-- the value of a number or a symbol, 0 where it has none
abbrev pub value_in : Env → ScopedAtom → ℤ
value_in env (Number n) = pos n
value_in env Huge = pos 0
value_in env (Symbol s) = or_zero (env s)

-- what terms add up to, from a whole number on
abbrev pub sum_from : Env → ℤ → List ScopedTerm → ℤ
sum_from env v [] = v
sum_from env v (p ∷ ps) = sum_from env (if p.negative then v -ℤ value_in env p.atom else v +ℤ value_in env p.atom) ps
