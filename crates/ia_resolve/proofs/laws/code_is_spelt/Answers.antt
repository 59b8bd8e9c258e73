use Rattle.ia_resolve.proofs.Spelling.{code_spelt}
use Rattle.ia_resolve.proofs.laws.code_is_spelt.Goals as goal

pub returns : goal.returns
returns c = code_spelt
