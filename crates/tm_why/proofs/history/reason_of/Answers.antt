use Rattle.std.proofs.Common.{ap, ◌∙◌}
use Rattle.tm_why.specs.Watched.{reason_in}
use Rattle.tm_why.proofs.history.reason_of.Goals as goal

pub returns : goal.returns
returns c = record {
  steps = c.requires.told.steps;
  all = c.requires.told.many;
  told = c.requires.told.told;
  asked = c.in-Ok.asked;
  next = rw c.machine.ensures at c.in-Ok.ensures.asked;
  is = c.reason.ensures c.requires.told.steps c.requires.told.kept
      ∙ ap (λ most. reason_in most c.in-Ok.asked c.requires.told.steps) c.requires.told.most;
}
