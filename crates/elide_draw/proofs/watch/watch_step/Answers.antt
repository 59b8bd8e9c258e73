use Rattle.elide_draw.proofs.Telling.{told_between}
use Rattle.elide_draw.proofs.watch.watch_step.Goals as goal

pub returns-clause-told : goal.returns-clause-told
returns-clause-told g c =
    told_between _ _ _ _ _ c.tell_hits.ensures c.in_ok-tell_step.ensures c.tell_variables.ensures
