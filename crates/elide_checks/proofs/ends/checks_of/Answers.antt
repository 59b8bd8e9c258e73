use Rattle.std.proofs.Common.{◌++◌, ◌∙◌, ap}
use Rattle.elide_checks.proofs.ends.checks_of.Goals as goal

pub returns : goal.returns
returns c =
    let demanded = c.in_ok-add_checks.ensures in
    let forbidden = c.in_ok-add_checks-2.ensures in
    record {
      demanded = demanded.0;
      forbidden = forbidden.0;
      whole =
          forbidden.1
          ∙ ap (λ l. l ++ forbidden.0) (demanded.1 ∙ ap (λ l. l ++ demanded.0) c.new-checks.ensures.items);
      of_demanded = demanded.2;
      of_forbidden = forbidden.2;
    }
