use Rattle.std.proofs.Common.{refl}
use Rattle.elide_page.proofs.reasons.ReasoningStepMaker.make_step.Goals as goal

pub returns-clause-made : goal.returns-clause-made
returns-clause-made g c = (
  c.args.pick,
  c.in_ok-step.step.outcome,
  refl,
  record {
    step = c.in_ok-step.ensures.step;
    window = refl;
    made = c.in_ok-made.ensures.next;
    some = c.in_ok-some.ensures.some;
    piece = c.in_ok-some.ensures.piece;
  },
)
