use Rattle.std.proofs.Common.{arith, refl}
use Rattle.page_telling.proofs.telling.TellingStepMaker.make_step.Goals as goal

pub returns-clause-made : goal.returns-clause-made
returns-clause-made g c =
    let told = c.in_ok-told.told in (
      (c.args.pick, told.outcome),
      refl,
      record {
        cores = c.in_ok-told.ensures.made.step.same.cores;
        window = refl;
        made = c.in_ok-made.ensures.next;
        told = λ within. record {
          told = record { pick = c.args.pick; outcome = told.outcome; before = told.before; delta = told.delta };
          is = refl;
          made = c.in_ok-told.ensures.made;
          piece = c.in_ok-put_told.ensures.piece c.args.pick;
        };
        behind = λ past. absurd (omega (arith, past, c.if-self.false));
      },
    )
