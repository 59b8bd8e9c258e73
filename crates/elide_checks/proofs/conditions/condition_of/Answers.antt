use Rattle.std.proofs.Common.{rules}
use Rattle.std.proofs.lemmas.Result.{err_from_is_err_and}
use Rattle.elide_checks.specs.Misread.{alone, first}
use Rattle.elide_checks.proofs.Clauses.{as_well}
use Rattle.elide_checks.proofs.Parts.{ended, goes_on, goes_wrong, shorter}
use Rattle.elide_checks.proofs.conditions.condition_of.Goals as goal

pub clauses-preserved : goal.clauses-preserved
clauses-preserved c =
    let one = c.in_ok-add_clause.ensures in
    let cut = c.in-Some.ensures.some in (
      search rules,
      goes_on _ _ _ _ _ _ _ _ one.0 c.clauses.invariant.1 cut one.2 one.1,
      goes_wrong _ _ _ _ _ c.clauses.invariant.2 cut,
    )

pub clauses-smaller : goal.clauses-smaller
clauses-smaller c = shorter _ _ _ c.in-Some.ensures.some

pub returns : goal.returns
returns c =
    let one = c.in_ok-add_clause-2.ensures in
    ended _ _ _ _ _ _ one.0 c.clauses.invariant.1 c.in_default.ensures.none one.2 one.1

pub returns-in_err-add_clause : goal.returns-in_err-add_clause
returns-in_err-add_clause c =
    let p = err_from_is_err_and c.from_residual.result c.from_residual.ensures.1 in
    rw (p.1, p.2)
    (as_well _ _
    (λ none. c.clauses.invariant.2 (first c.in-Some.first.now c.in-Some.more.now c.in-Some.ensures.some none))
    c.in_err-add_clause.ensures)

pub returns-in_err-add_clause-2 : goal.returns-in_err-add_clause-2
returns-in_err-add_clause-2 c =
    let r = c.from_residual-in_err-add_clause-2 in
    let p = err_from_is_err_and r.result r.ensures.1 in
    rw (p.1, p.2)
    (as_well _ _ (λ none. c.clauses.invariant.2 (alone c.in_default.ensures.none none)) c.in_err-add_clause-2.ensures)
