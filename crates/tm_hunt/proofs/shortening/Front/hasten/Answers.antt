use Rattle.tm_hunt.proofs.Shortenings.{simplifies_more}
use Rattle.tm_hunt.proofs.shortening.Front.hasten.Goals as goal

pub returns-in_err-hasten_at-clause-simpler : goal.returns-in_err-hasten_at-clause-simpler
returns-in_err-hasten_at-clause-simpler c =
    simplifies_more _ _ _ _ c.tries.invariant.simpler c.hasten_at.ensures.simpler

pub tries-preserved : goal.tries-preserved
tries-preserved c = record {
  can = c.hasten_at.ensures.can;
  machine = c.hasten_at.ensures.machine;
  simpler = simplifies_more _ _ _ _ c.tries.invariant.simpler c.hasten_at.ensures.simpler;
}
