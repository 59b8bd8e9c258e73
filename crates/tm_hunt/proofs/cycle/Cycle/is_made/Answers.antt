use Rattle.std.proofs.Common.{rules, arith, ap, ◌∙◌, take}
use Rattle.tm_hunt.proofs.Cycles.{goes_round}
use Rattle.tm_hunt.proofs.cycle.Cycle.is_made.Goals as goal

pub returns : goal.returns
returns c = λ is.
    goes_round c.args.trial.now c.args.picks.now c.split_at.result.0.now c.split_at-2.result.0.now c.args.self
    c.args.chase.now.slow.machine c.leads_there.new.machine c.leads_back.new.machine (omega arith) (omega arith)
    c.split_at.ensures.front
    (c.split_at-2.ensures.front ∙ ap (take c.args.self.steps) c.split_at.ensures.back)
    (c.leads_there.ensures.came (search rules)) (c.leads_there.ensures.alike (search rules))
    (c.leads_back.ensures.rounds is) (c.leads_back.ensures.made is) c.leads_back.ensures.same
    (c.leads_back.ensures.alike is)
