use Rattle.std.proofs.Common.{◌∙◌}
use Rattle.tm_hunt.proofs.Cycles.{makes_one, pick_told}
use Rattle.tm_hunt.proofs.Loads.{goes_unheld}
use Rattle.tm_hunt.proofs.walker.makes_alone.Goals as goal

pub returns-in-Ok-clause-made : goal.returns-in-Ok-clause-made
returns-in-Ok-clause-made c = λ is.
    makes_one c.args.machine.now c.step.new.self c.args.pick c.in-Ok.outcome
    (pick_told c.args.pick c.in-Ok.outcome (c.is_told.ensures is)) c.in-Ok.ensures.run

pub returns-in-Ok-clause-goes : goal.returns-in-Ok-clause-goes
returns-in-Ok-clause-goes c = λ is none.
    goes_unheld c.args.machine.now c.step.new.self c.args.pick.core c.in-Ok.outcome c.in-Ok.ensures.ok
    (c.is_told.ensures is ∙ none)
