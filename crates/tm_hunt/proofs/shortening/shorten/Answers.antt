use Rattle.tm_hunt.proofs.shortening.shorten.Goals as goal

pub returns-clause-kinds : goal.returns-clause-kinds
returns-clause-kinds c =
    λ kinds h. c.hasten_drains.ensures.simpler.kinds kinds (c.cut_front.ensures.simpler.kinds kinds h)
