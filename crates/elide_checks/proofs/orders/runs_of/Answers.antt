use Rattle.std.proofs.Common.{◌∙◌, Some, ap, codes, refl}
use Rattle.std.proofs.lemmas.Result.{err_from_is_err_and}
use Rattle.std.specs.Option.{option_copied}
use Rattle.elide_checks.specs.Runs.{no_count, no_end, no_first, turned}
use Rattle.elide_checks.proofs.Reasons.{misuse_named}
use Rattle.elide_checks.proofs.orders.runs_of.Goals as goal

pub returns-in_err-number_of-in-None-clause-err : goal.returns-in_err-number_of-in-None-clause-err
returns-in_err-number_of-in-None-clause-err c =
    let p = err_from_is_err_and c.from_residual.result c.from_residual.ensures.1 in
    let why = c.in_err-number_of-in-None.ensures in
    rw p.1 (
      no_count c.in-Some.text.now (ap option_copied c.in-Some.is) why.0 c.in-None.ensures.none,
      misuse_named (codes "--runs") _ _ p.0 why.1 p.2 refl,
    )

pub returns-in_err-first-in-Some-cut-clause-err : goal.returns-in_err-first-in-Some-cut-clause-err
returns-in_err-first-in-Some-cut-clause-err c =
    let r = c.from_residual-in_err-first-in-Some-cut in
    let p = err_from_is_err_and r.result r.ensures.1 in
    let why = c.in_err-first-in-Some-cut.ensures in
    rw p.1 (
      no_first c.in-Some-cut.first.now c.in-Some-cut.end.now
          (ap option_copied c.in-Some.is ∙ ap Some c.in-Some-cut.ensures.some.whole) why.0,
      misuse_named (codes "--runs") _ _ p.0 why.1 p.2 refl,
    )

pub returns-in_err-end-in-Some-cut-clause-err : goal.returns-in_err-end-in-Some-cut-clause-err
returns-in_err-end-in-Some-cut-clause-err c =
    let r = c.from_residual-in_err-end-in-Some-cut in
    let p = err_from_is_err_and r.result r.ensures.1 in
    let why = c.in_err-end-in-Some-cut.ensures in
    rw p.1 (
      no_end c.in-Some-cut.first.now c.in-Some-cut.end.now
          (ap option_copied c.in-Some.is ∙ ap Some c.in-Some-cut.ensures.some.whole) why.0,
      misuse_named (codes "--runs") _ _ p.0 why.1 p.2 refl,
    )

pub returns-then-first-end-clause-err : goal.returns-then-first-end-clause-err
returns-then-first-end-clause-err c = (
  turned c.in-Some-cut.first.now c.in-Some-cut.end.now c.in_ok-first-in-Some-cut.first c.in_ok-end-in-Some-cut.end
      (ap option_copied c.in-Some.is ∙ ap Some c.in-Some-cut.ensures.some.whole) c.in_ok-first-in-Some-cut.ensures
      c.in_ok-end-in-Some-cut.ensures c.if-first-end.true,
  refl,
)
