use Rattle.std.proofs.Common.{◌∙◌, ap, rules}
use Rattle.ia_alu.specs.Products.{product_flags}
use Rattle.ia_regs.specs.Flags.{has_carry, has_parity, has_adjust, has_zero, has_sign, has_overflow}
use Rattle.ia_alu.proofs.Readings.{reads_le, product_carry, product_overflow, parity_kept, adjust_kept, zero_kept}
use Rattle.ia_alu.proofs.Readings.{sign_kept}
use Rattle.ia_alu.proofs.products.mul.Goals as goal

pub returns-clause-flags : goal.returns-clause-flags
unfolding product_flags
returns-clause-flags c = search rules

pub returns-clause-cf : goal.returns-clause-cf
returns-clause-cf c = reads_le _ _ _ (ap has_carry (returns-clause-flags c) ∙ product_carry _ _ _)

pub returns-clause-of : goal.returns-clause-of
returns-clause-of c = reads_le _ _ _ (ap has_overflow (returns-clause-flags c) ∙ product_overflow _ _ _)

pub returns-clause-pf : goal.returns-clause-pf
unfolding product_flags
returns-clause-pf c = ap has_parity (returns-clause-flags c) ∙ parity_kept _ _ _

pub returns-clause-af : goal.returns-clause-af
unfolding product_flags
returns-clause-af c = ap has_adjust (returns-clause-flags c) ∙ adjust_kept _ _ _

pub returns-clause-zf : goal.returns-clause-zf
unfolding product_flags
returns-clause-zf c = ap has_zero (returns-clause-flags c) ∙ zero_kept _ _ _

pub returns-clause-sf : goal.returns-clause-sf
unfolding product_flags
returns-clause-sf c = ap has_sign (returns-clause-flags c) ∙ sign_kept _ _ _
