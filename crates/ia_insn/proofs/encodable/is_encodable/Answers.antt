use Rattle.std.proofs.Common.{false, sym, ◌∙◌}
use Rattle.ia_insn.specs.Encoding.{insn_bytes}
use Rattle.ia_insn.proofs.Spelt.{insn_spelt}
use Rattle.ia_insn.proofs.Makes.{insn_encodable}
use Rattle.ia_insn.proofs.encodable.is_encodable.Goals as goal

pub returns-clause-exact : goal.returns-clause-exact
returns-clause-exact c = (
  λ e. (insn_bytes c.args.insn.now, insn_spelt false false c.args.insn.now (sym c.fits.ensures ∙ e)),
  λ s. c.fits.ensures ∙ insn_encodable s.1,
)
