use Rattle.std.proofs.Common.{◌-◌, refl, sym, ap, ◌∙◌, arith}
use Rattle.std.specs.Prelude.{slice_get}
use Rattle.tm_work.proofs.desk_state.last_of.Goals as goal

pub returns-clause-last : goal.returns-clause-last
returns-clause-last c made some =
    let all = c.made-steps.ensures.made in
    record {
      receipt = record { index = c.made-steps.result - 1; outcome = c.unwrap-core.result.1 };
      is = refl;
      index = omega arith;
      core = c.unwrap-core.result.0;
      step = ap (λ h. slice_get h (c.made-steps.result - 1)) (sym c.history.ensures) ∙ sym c.get.ensures
          ∙ c.unwrap-core.ensures;
    }
