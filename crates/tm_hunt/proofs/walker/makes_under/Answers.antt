use Rattle.tm_hunt.proofs.Cycles.{makes_one, pick_told}
use Rattle.tm_hunt.proofs.walker.makes_under.Goals as goal

pub returns-in-Ok-clause-made : goal.returns-in-Ok-clause-made
returns-in-Ok-clause-made c = λ is.
    makes_one c.args.machine.now c.step_under.new.self c.args.pick c.in-Ok.outcome
    (pick_told c.args.pick c.in-Ok.outcome (c.is_told.ensures is)) c.in-Ok.ensures.run
