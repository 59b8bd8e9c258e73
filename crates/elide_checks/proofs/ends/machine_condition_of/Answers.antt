use Rattle.std.proofs.Common.{inl, inr, refl}
use Rattle.std.proofs.lemmas.Result.{err_from_is_err_and}
use Rattle.elide_checks.proofs.Clauses.{as_well}
use Rattle.elide_checks.proofs.ends.machine_condition_of.Goals as goal

pub returns-in_err-clauses : goal.returns-in_err-clauses
returns-in_err-clauses c =
    let p = err_from_is_err_and c.from_residual.result c.from_residual.ensures.1 in
    rw (p.1, p.2) (as_well _ _ (λ none. inl none) c.in_err-clauses.ensures)

pub returns-in-None : goal.returns-in-None
returns-in-None c =
    let run = rw c.in-None.is at c.in_ok-clauses-2.ensures in (
    inl (
      inr (record {
        clauses = c.in_ok-clauses.clauses.items;
        says = c.in_ok-clauses.ensures;
        one = run.0;
        among = run.1;
        counting = run.2;
      }),
      refl,
    )
    )
