-- The turns of operators tell them apart.
use Rattle.std.proofs.Common.{◌≡◌, ℕ, ◌==◌, if◌then◌else◌, ap, sym, ◌∙◌, refl}
use Rattle.tm_condition.specs.declared.comparison.Comparison.{Comparison}
use Rattle.tm_condition.specs.declared.comparison.Comparison.TheVariants.{Equal, NotEqual, Below, AtMost, Above}
use Rattle.tm_condition.specs.declared.comparison.Comparison.TheVariants.{AtLeast}
use Rattle.elide_checks.specs.Conditions.{turn}

-- which operator a turn is
abbrev at_turn : ℕ → Comparison
at_turn n =
    if n == 0 then Equal else if n == 1 then NotEqual else if n == 2 then AtMost else if n == 3 then AtLeast
    else if n == 4 then Below else Above

is_at_turn : (comparison : Comparison) → at_turn (turn comparison) ≡ comparison
is_at_turn Equal = refl
is_at_turn NotEqual = refl
is_at_turn AtMost = refl
is_at_turn AtLeast = refl
is_at_turn Below = refl
is_at_turn Above = refl

pub same_turn : (a b : Comparison) → turn a ≡ turn b → a ≡ b
same_turn a b e = sym (is_at_turn a) ∙ ap at_turn e ∙ is_at_turn b
