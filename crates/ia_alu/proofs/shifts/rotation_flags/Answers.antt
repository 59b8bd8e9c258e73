use Rattle.std.proofs.Common.{◌≡◌, Bool, true, false, not, refl, ◌∙◌, ap}
use Rattle.std.proofs.Math.Bool.{beq}
use Rattle.ia_regs.specs.Flags.{differ, has_carry, has_parity, has_adjust, has_zero, has_sign, has_overflow}
use Rattle.ia_regs.proofs.Laws.{carry_of, parity_of, adjust_of, zero_of, sign_of, overflow_of}
use Rattle.ia_alu.proofs.shifts.rotation_flags.Goals as goal

-- two flags are unequal where one is set and not both
unequal : (a b : Bool) → not (beq a b) ≡ differ a b
unequal true true = refl
unequal true false = refl
unequal false true = refl
unequal false false = refl

pub returns-clause-cf : goal.returns-clause-cf
returns-clause-cf c = ap has_carry c.with_overflow.ensures ∙ carry_of _ _ _ _ _ _ ∙ ap has_carry c.with_carry.ensures
    ∙ carry_of _ _ _ _ _ _

pub returns-clause-pf : goal.returns-clause-pf
returns-clause-pf c = ap has_parity c.with_overflow.ensures ∙ parity_of _ _ _ _ _ _ ∙ ap has_parity c.with_carry.ensures
    ∙ parity_of _ _ _ _ _ _

pub returns-clause-af : goal.returns-clause-af
returns-clause-af c = ap has_adjust c.with_overflow.ensures ∙ adjust_of _ _ _ _ _ _ ∙ ap has_adjust c.with_carry.ensures
    ∙ adjust_of _ _ _ _ _ _

pub returns-clause-zf : goal.returns-clause-zf
returns-clause-zf c =
    ap has_zero c.with_overflow.ensures ∙ zero_of _ _ _ _ _ _ ∙ ap has_zero c.with_carry.ensures ∙ zero_of _ _ _ _ _ _

pub returns-clause-sf : goal.returns-clause-sf
returns-clause-sf c =
    ap has_sign c.with_overflow.ensures ∙ sign_of _ _ _ _ _ _ ∙ ap has_sign c.with_carry.ensures ∙ sign_of _ _ _ _ _ _

pub returns-clause-of : goal.returns-clause-of
returns-clause-of c = λ one. ap has_overflow c.with_overflow.ensures ∙ overflow_of _ _ _ _ _ _
    ∙ c.overflow_after-overflow.ensures.one one ∙ unequal _ _

pub returns-clause-of_kept : goal.returns-clause-of_kept
returns-clause-of_kept c = λ many. ap has_overflow c.with_overflow.ensures ∙ overflow_of _ _ _ _ _ _
    ∙ c.overflow_after-overflow.ensures.kept many
