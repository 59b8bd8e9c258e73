use Rattle.std.proofs.Common.{◌≡◌, inl, inr, Some, sym, subst, arith}
use Rattle.std.specs.Prelude.{slice_get}
use Rattle.std.proofs.lemmas.Bool.{cases_lt}
use Rattle.std.proofs.lemmas.Option.{slice_get_within}
use Rattle.tm_outcomes.specs.Verdicts.{IsViolationTold}
use Rattle.tm_outcomes.proofs.violations.take_up_checks.Goals as goal

pub loop-check-preserved : goal.loop-check-preserved
loop-check-preserved c =
    let so_far = c.loop-check.invariant in
    let checks = c.args.task.now.trial.checks.now in
    record {
      end = so_far.end;
      violations = c.in_ok-take_up_check.ensures.violations;
      kept = λ check told. c.in_ok-take_up_check.ensures.kept check (so_far.kept check told);
      found = λ check what below is now stands violates. elim (cases_lt check c.loop-check.check) [
        | inl less ↦ c.in_ok-take_up_check.ensures.kept check (so_far.found check what less is now stands violates)
        | inr more ↦
            let same : c.loop-check.check ≡ check = omega arith in
            subst (λ n. IsViolationTold c.take_up_check.new.violations.items n) same
            (c.in_ok-take_up_check.ensures.found what
            (subst (λ n. slice_get checks n ≡ Some what) (sym same) is) now stands
            violates)
      ];
    }

pub returns-clause-found : goal.returns-clause-found
returns-clause-found c = λ check what is now stands violates.
    c.loop-check.invariant.found check what
    (let within = slice_get_within c.args.task.now.trial.checks.now check what is in
    let end = c.loop-check.invariant.end in omega arith) is now stands violates
