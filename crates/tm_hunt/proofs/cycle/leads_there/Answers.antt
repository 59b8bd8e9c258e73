use Rattle.std.proofs.Common.{rules}
use Rattle.tm_hunt.proofs.Cycles.{came_by, of_same}
use Rattle.tm_hunt.proofs.cycle.leads_there.Goals as goal

pub returns-then-makes_all-clause-came : goal.returns-then-makes_all-clause-came
returns-then-makes_all-clause-came c = λ is.
    let start = c.reopen.new.self in
    came_by c.args.trial.now start c.makes_all.new.machine c.args.before.now
    (of_same c.args.trial.now c.args.machine.now start c.requires c.reopen.ensures.same) c.reopen.ensures.opening
    (c.makes_all.ensures.made (search rules))
