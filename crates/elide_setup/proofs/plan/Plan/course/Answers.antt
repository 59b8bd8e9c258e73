use Rattle.std.proofs.Common.{ℕ, List, ap, subst, sym}
use Rattle.std.proofs.lemmas.Result.{err_from_is_err_and}
use Rattle.elide_program.specs.Files.{Gives, most_bytes}
use Rattle.elide_setup.specs.Refused.{plan_path}
use Rattle.elide_setup.proofs.plan.Plan.course.Goals as goal

pub returns-in_err-text-in-File-clause-none : goal.returns-in_err-text-in-File-clause-none
returns-in_err-text-in-File-clause-none g c =
    let p = err_from_is_err_and c.from_residual.result c.from_residual.ensures.1 in
    rw (p.1, p.2)
    record { path = c.in-File.path; planned = ap plan_path c.in-File.is; none = c.in_err-text-in-File.ensures.none }

pub returns-in_err-steps_of-in-File-clause-none : goal.returns-in_err-steps_of-in-File-clause-none
returns-in_err-steps_of-in-File-clause-none g c =
    let r = c.from_residual-in_err-steps_of-in-File in
    let p = err_from_is_err_and r.result r.ensures.1 in
    let content = g.P.Paths.content c.args.paths.now c.in-File.path.now in
    rw (p.1, p.2) record {
      path = c.in-File.path;
      planned = ap plan_path c.in-File.is;
      none = c.in_err-steps_of-in-File.ensures.none content
          (subst (λ (text : List ℕ). Gives content most_bytes text) (sym c.as_slice.ensures.value)
          c.in_ok-text-in-File.ensures.whole);
    }
