use Rattle.elide_draw.proofs.Telling.{same_more}
use Rattle.elide_draw.proofs.rounds.Rounds.tell.Goals as goal

pub returns : goal.returns
returns c = same_more _ _ _ c.tell_pause.ensures c.tell_round.ensures
