-- Sums without symbols have the value that placing gives them.
use Rattle.std.specs.Prelude.{◌≡◌, false, Some, List, map, ℤ}
use Rattle.ia_item.specs.declared.expression.ScopedTerm.{ScopedTerm}
use Rattle.ia_item.specs.Expressions.{Env, any_symbol, any_unknown, any_huge, sum_from}
use Rattle.ia_names.specs.Namings.{Naming}
use Rattle.ia_source.specs.Contents.{scoped_term_content}
use Rattle.ia_round_trip.specs.Resolution.{sum_from as given_from}

-- whatever the symbols are; no field of such an expression is wide
abbrev pub ExpressionsAgree : Type 0
ExpressionsAgree = (naming : Naming) (env : Env) (v w : ℤ) (ps : List ScopedTerm)
    → given_from v (map (scoped_term_content naming) ps) ≡ Some w
    → (any_symbol ps ≡ false) × (any_unknown env ps ≡ false) × (any_huge ps ≡ false) × (sum_from env v ps ≡ w)
