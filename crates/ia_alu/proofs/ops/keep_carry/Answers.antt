use Rattle.std.proofs.Common.{◌∙◌, ap}
use Rattle.ia_regs.specs.Flags.{has_carry, has_parity, has_adjust, has_zero, has_sign, has_overflow}
use Rattle.ia_regs.proofs.Laws.{carry_of, parity_of, adjust_of, zero_of, sign_of, overflow_of}
use Rattle.ia_alu.proofs.ops.keep_carry.Goals as goal

pub returns-clause-cf : goal.returns-clause-cf
returns-clause-cf c = ap has_carry c.with_carry.ensures ∙ carry_of _ _ _ _ _ _ ∙ c.carry.ensures

pub returns-clause-pf : goal.returns-clause-pf
returns-clause-pf c = ap has_parity c.with_carry.ensures ∙ parity_of _ _ _ _ _ _

pub returns-clause-zf : goal.returns-clause-zf
returns-clause-zf c = ap has_zero c.with_carry.ensures ∙ zero_of _ _ _ _ _ _

pub returns-clause-sf : goal.returns-clause-sf
returns-clause-sf c = ap has_sign c.with_carry.ensures ∙ sign_of _ _ _ _ _ _

pub returns-clause-af : goal.returns-clause-af
returns-clause-af c = ap has_adjust c.with_carry.ensures ∙ adjust_of _ _ _ _ _ _

pub returns-clause-of : goal.returns-clause-of
returns-clause-of c = ap has_overflow c.with_carry.ensures ∙ overflow_of _ _ _ _ _ _
