use Rattle.std.proofs.Common.{◌≡◌, List, ℕ, false, length, subst}
use Rattle.std.proofs.lemmas.Result.{err_from_is_err_and}
use Rattle.elide_setup.specs.Shown.{are_held}
use Rattle.elide_run.specs.Refused.{unheld}
use Rattle.elide_run.proofs.opening.machine_of.Goals as goal

pub returns-in_err-shown_memory-clause-none : goal.returns-in_err-shown_memory-clause-none
returns-in_err-shown_memory-clause-none c =
    let none = c.in_err-shown_memory.ensures in
    let p =
    err_from_is_err_and c.from_residual-in_err-shown_memory.result c.from_residual-in_err-shown_memory.ensures.1 in
    rw (p.1, p.2)
    (unheld c.in_ok-machine.machine c.in_ok-machine.ensures.made
    (record {
      tells = none.0;
      not_held =
          subst (λ (bytes : List ℕ). are_held (length bytes) c.args.setup.now.parts ≡ false) c.view.ensures none.1;
    }))
