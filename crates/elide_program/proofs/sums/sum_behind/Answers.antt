use Rattle.std.proofs.Common.{subst, sym}
use Rattle.elide_program.specs.Sums.{IsSumBehind, IsTerm}
use Rattle.elide_program.proofs.SumSteps.{ended, failed, goes_on}
use Rattle.elide_program.proofs.sums.sum_behind.Goals as goal

pub returns-in_err-term_of : goal.returns-in_err-term_of
returns-in_err-term_of c =
    let is =
    subst (λ v. IsTerm c.args.file.now c.split_at_sign.result.0.now v) c.in_err-term_of.was c.term_of.ensures in
    let none = failed _ _ _ _ _ _ _ _ c.terms.invariant c.split_at_sign.ensures.whole c.split_at_sign.ensures.term is
    c.split_at_sign.ensures.others in
    subst (λ v. IsSumBehind c.args.file.now c.args.first c.args.text.now v) (sym c.from_residual.ensures) none

pub returns-in-empty : goal.returns-in-empty
returns-in-empty c =
    let is = subst (λ v. IsTerm c.args.file.now c.split_at_sign.result.0.now v) c.in_ok-term_of.was c.term_of.ensures in
    ended _ _ _ _ _ _ _ _ _ _ c.terms.invariant c.split_at_sign.ensures.whole c.split_at_sign.ensures.term is
    c.in-empty.len_below c.with_term-sum.ensures

pub terms-preserved : goal.terms-preserved
terms-preserved c =
    let is = subst (λ v. IsTerm c.args.file.now c.split_at_sign.result.0.now v) c.in_ok-term_of.was c.term_of.ensures in
    goes_on _ _ _ _ _ _ _ _ _ _ c.terms.invariant c.split_at_sign.ensures.whole c.split_at_sign.ensures.term is
    c.split_at_sign.ensures.others c.in-len1-up.len_at_least c.with_term-sum.ensures
