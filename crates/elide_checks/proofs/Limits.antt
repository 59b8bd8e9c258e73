-- The most steps of a run, as one reader of `--limit` has them and as they are told.
use Rattle.std.proofs.Common.{◌≡◌, ◌≤◌, ℕ, zero, suc, List, Option, None, Some, ap, arith, unwrap_or}
use Rattle.std.specs.Prelude.{option_and_then}
use Rattle.elide_program.specs.Settings.{number_or, word32}
use Rattle.elide_setup.specs.Drawing.{limit_said, some_steps}
use Rattle.elide_checks.specs.Runs.{IsNoLimit}

steps_said : (said : Option ℕ) (most : ℕ) → option_and_then some_steps said ≡ Some most
    → (said ≡ Some most) × (1 ≤ most)
steps_said None most e = absurd (cc)
steps_said (Some zero) most e = absurd (cc)
steps_said (Some (suc n)) most e = (e, omega (arith, ap (λ (o : Option ℕ). unwrap_or o 1) e))

no_steps_said : (said : Option ℕ) (most : ℕ) → option_and_then some_steps said ≡ None → said ≡ Some most → most ≡ 0
no_steps_said None most e same = absurd (cc)
no_steps_said (Some zero) most e same = omega (arith, ap (λ (o : Option ℕ). unwrap_or o 1) same)
no_steps_said (Some (suc n)) most e same = absurd (cc)

-- a number, 1 or more
pub limit_is : (option : Option (List ℕ)) (most : ℕ) → limit_said option ≡ Some most
    → (number_or 1000000 option ≡ Some most) × (1 ≤ most)
limit_is None most e = (e, omega (arith, ap (λ (o : Option ℕ). unwrap_or o 1) e))
limit_is (Some text) most e = steps_said (word32 text) most e

-- or none
pub no_limit : (option : Option (List ℕ)) → limit_said option ≡ None → IsNoLimit option
no_limit None e = absurd (cc)
no_limit (Some text) e = λ most same. no_steps_said (word32 text) most e same
