-- Sums without symbols have the value that placing gives them.
use Rattle.std.proofs.Common.{◌≡◌, Bool, false, cond, List, [], ◌∷◌, Option, Some, None, refl, ap, map}
use Rattle.std.specs.Prelude.{ℤ, pos, ◌+ℤ◌, ◌-ℤ◌}
use Rattle.ia_item.specs.declared.expression.ScopedTerm.{ScopedTerm}
use Rattle.ia_item.specs.declared.expression.ScopedAtom.{ScopedAtom}
use Rattle.ia_item.specs.declared.expression.ScopedAtom.TheVariants as atom
use Rattle.ia_item.specs.Expressions.{Env, any_symbol, any_unknown, any_huge, sum_from}
use Rattle.ia_names.specs.Namings.{Naming}
use Rattle.ia_source.specs.Contents.{scoped_term_content}
use Rattle.ia_round_trip.specs.Resolution.{sum_from as given_from}
use Rattle.ia_round_trip.specs.Expressions.{ExpressionsAgree}

abbrev Agrees : Env → ℤ → ℤ → List ScopedTerm → Type 0
Agrees env v w ps =
    (any_symbol ps ≡ false) × (any_unknown env ps ≡ false) × (any_huge ps ≡ false) × (sum_from env v ps ≡ w)

-- one more part
one_more : (naming : Naming) (env : Env) (v w : ℤ) (neg : Bool) (x : ScopedAtom) (ps : List ScopedTerm)
    → ((v : ℤ) → given_from v (map (scoped_term_content naming) ps) ≡ Some w → Agrees env v w ps)
    → given_from v (map (scoped_term_content naming) ((record { negative = neg; atom = x }) ∷ ps)) ≡ Some w
    → Agrees env v w ((record { negative = neg; atom = x }) ∷ ps)
one_more naming env v w neg (atom.Number n) ps k e =
    let h = k (cond neg (v -ℤ pos n) (v +ℤ pos n)) e in
    (h.0, h.1, h.2, h.3)
one_more naming env v w neg atom.Huge ps k e = absurd cc
one_more naming env v w neg (atom.Symbol name) ps k e = absurd cc

abbrev or_else : ℤ → Option ℤ → ℤ
or_else d None = d
or_else d (Some v) = v

some_same : (v w : ℤ) → Some v ≡ Some w → v ≡ w
some_same v w e = ap (or_else v) e

pub expressions_agree : ExpressionsAgree
expressions_agree naming env v w [] e = (refl, refl, refl, some_same v w e)
expressions_agree naming env v w (p ∷ ps) e =
    one_more naming env v w p.negative p.atom ps (λ u h. expressions_agree naming env u w ps h) e
