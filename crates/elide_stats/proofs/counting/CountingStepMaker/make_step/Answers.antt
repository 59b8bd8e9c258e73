use Rattle.std.proofs.Common.{◌∷◌, arith, refl}
use Rattle.elide_stats.proofs.counting.CountingStepMaker.make_step.Goals as goal

pub returns-in-Ok-note-clause-made : goal.returns-in-Ok-note-clause-made
returns-in-Ok-note-clause-made c =
    let machine = c.args.self.now.machine in
    let step = c.step-2.result in (
      c.in_ok-outcome.ensures.made,
      λ earlier. record {
        told = step ∷ earlier;
        are_told = (
          c.make_step.new.self,
          step,
          c.in_ok-outcome.ensures.made,
          c.step-2.ensures machine c.before-asked.ensures,
          (refl, refl),
        );
        counts = λ few was. c.in-Ok-note.ensures.ok earlier (omega (arith, few)) was;
      },
    )
