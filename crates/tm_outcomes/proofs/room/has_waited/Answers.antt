use Rattle.std.proofs.Common.{◌∙◌, sym}
use Rattle.std.proofs.lemmas.Bool.{false≢true}
use Rattle.tm_outcomes.proofs.room.has_waited.Goals as goal

pub returns-clause-here : goal.returns-clause-here
returns-clause-here c none now stands waiting =
    absurd (false≢true (sym none ∙ (c.has_waiting.ensures now stands).1 waiting))

pub returns-clause-some : goal.returns-clause-some
returns-clause-some c some before now stands = (c.has_waiting.ensures now stands).0 some
