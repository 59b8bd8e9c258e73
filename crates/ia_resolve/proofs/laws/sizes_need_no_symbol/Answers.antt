use Rattle.ia_resolve.proofs.Sizes.{code_length}
use Rattle.ia_resolve.proofs.laws.sizes_need_no_symbol.Goals as goal

pub returns : goal.returns
returns c = code_length
