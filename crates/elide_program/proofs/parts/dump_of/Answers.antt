use Rattle.std.proofs.Common.{inr, rules}
use Rattle.elide_program.proofs.parts.dump_of.Goals as goal

pub returns-in_err-word32 : goal.returns-in_err-word32
returns-in_err-word32 c =
    rw c.from_residual-in_err-word32.ensures
    (inr (c.in_ok-at.at.now, c.in_ok-at.count.now, search rules, inr (search rules)))
