use Rattle.ia_exec.proofs.Facts.{finish_lawful}
use Rattle.ia_exec.proofs.laws.each_outcome_is_lawful.Goals as goal

pub returns : goal.returns
returns c = finish_lawful
