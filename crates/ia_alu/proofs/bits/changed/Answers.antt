use Rattle.std.proofs.Common.{◌-◌, ◌^◌, ◌∙◌, ap, arith, bit_and, bit_or, bit_xor, sym}
use Rattle.ia_alu.specs.Bits.{bit_value}
use Rattle.ia_alu.proofs.SetBits.{cleared, mask_is, set, small_mask, turned}
use Rattle.ia_alu.proofs.bits.changed.Goals as goal

pub returns-in-Bts : goal.returns-in-Bts
returns-in-Bts c = ap (bit_or c.args.a) (mask_is c.args.place c.requires) ∙ set c.args.a c.args.place
    ∙ ap (λ o. bit_value o c.args.a c.args.place) (sym c.in-Bts.is)

pub returns-in-Btr : goal.returns-in-Btr
returns-in-Btr c =
    ap (λ m. bit_and c.args.a (2 ^ 32 - 1 - m)) (mask_is c.args.place c.requires)
    ∙ cleared c.args.a c.args.place (omega (arith, c.ranges.a)) (small_mask c.args.place c.requires)
    ∙ ap (λ o. bit_value o c.args.a c.args.place) (sym c.in-Btr.is)

pub returns-in-Btc : goal.returns-in-Btc
returns-in-Btc c = ap (bit_xor c.args.a) (mask_is c.args.place c.requires) ∙ turned c.args.a c.args.place
    ∙ ap (λ o. bit_value o c.args.a c.args.place) (sym c.in-Btc.is)
