use Rattle.std.proofs.Common.{◌≡◌, ℕ, Option, false, refl, sym, ap, ◌∙◌}
use Rattle.ia_word.specs.declared.width.Width.{Width}
use Rattle.ia_word.specs.declared.width.Width.TheVariants.{B, D}
use Rattle.tm_model.specs.Access.{addresses_of, loaded_addresses}
use Rattle.tm_model.specs.Types.{Access}
use Rattle.tm_outcomes.specs.Unseen.{are_none}
use Rattle.tm_outcomes.proofs.rest.is_absent.Goals as goal

-- each access has a byte
has_bytes : (address : ℕ) (width : Width) → are_none (addresses_of address width) ≡ false
has_bytes address B = refl
has_bytes address D = refl

pub returns-in-Some : goal.returns-in-Some
returns-in-Some c =
    sym (ap (λ (o : Option Access). are_none (loaded_addresses o)) c.in-Some.is ∙ has_bytes _ _)
