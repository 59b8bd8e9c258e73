use Rattle.elide_checks.proofs.Cuts.{first_place, no_place}
use Rattle.elide_checks.proofs.cut.cut.Goals as goal

pub returns-clause-some : goal.returns-clause-some
returns-clause-some c = first_place c.args.text.now c.args.word.now c.split_once.result c.split_once.ensures.cases

pub returns-clause-none : goal.returns-clause-none
returns-clause-none c = no_place c.args.text.now c.args.word.now c.split_once.result _ c.split_once.ensures.cases
