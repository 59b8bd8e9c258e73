use Rattle.std.proofs.Common.{◌∙◌, ap}
use Rattle.std.specs.Prelude.{codes, is_some}
use Rattle.elide_expect.proofs.Lists.{place_end}
use Rattle.elide_expect.proofs.judge.is_outcome.Goals as goal

pub returns : goal.returns
returns c = c.is_some.ensures ∙ ap is_some c.place_of.ensures.place ∙ place_end (codes "  ") c.args.line.now
