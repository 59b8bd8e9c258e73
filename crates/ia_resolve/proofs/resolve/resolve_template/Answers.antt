use Rattle.std.proofs.Common.{◌∙◌}
use Rattle.ia_resolve.proofs.FieldLemmas.{insn_encodable}
use Rattle.ia_resolve.proofs.resolve.resolve_template.Goals as goal

pub returns-clause-encodable : goal.returns-clause-encodable
returns-clause-encodable g c =
    insn_encodable c.args.template.now.insn.lock c.args.template.now.insn.op c.op_with_displacement-with_both.result.op
    c.requires.fits.0
    (λ e. c.op_with_displacement-with_both.ensures.encodable (c.op_with_number-with_number.ensures.encodable e))
    (c.op_with_displacement-with_both.ensures.lockable ∙ c.op_with_number-with_number.ensures.lockable)
