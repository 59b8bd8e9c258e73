use Rattle.elide_hunt.specs.Refused.{not_made}
use Rattle.elide_hunt.proofs.command.lates_of.Goals as goal

pub returns-in-Err-clause-refused : goal.returns-in-Err-clause-refused
returns-in-Err-clause-refused c = not_made c.in-Err.fault c.in-Err.ensures.err c.fault_of.ensures
