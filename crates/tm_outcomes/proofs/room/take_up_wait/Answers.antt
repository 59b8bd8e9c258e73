use Rattle.std.proofs.Common.{subst, sym}
use Rattle.tm_model.specs.Setting.{Setting}
use Rattle.tm_outcomes.specs.Verdicts.{HasWaiting}
use Rattle.tm_outcomes.proofs.Waiting.{waited_by}
use Rattle.tm_outcomes.proofs.room.take_up_wait.Goals as goal

pub returns-clause-waited : goal.returns-clause-waited
returns-clause-waited c =
    waited_by c.args._task.now.trial c.args.at.now c.requires.at c.args.waited.now c.has_waited.result
    c.requires.waited c.has_waited.ensures.some

pub returns-clause-found : goal.returns-clause-found
returns-clause-found c none now stands waiting =
    let rules = (c.requires.at.here c.requires.at.tree.0 c.requires.at.tree.1).rules in
    c.has_waited.ensures.here none now stands (subst (λ (k : Setting). HasWaiting k now) (sym rules) waiting)
