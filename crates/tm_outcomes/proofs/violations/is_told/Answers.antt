use Rattle.std.proofs.Common.{◌≡◌, inl, inr, refl, sym, ap, ◌∙◌, subst, get_or, arith}
use Rattle.std.proofs.lemmas.Bool.{cases_lt, false≢true}
use Rattle.std.proofs.lemmas.List.{get_or_default}
use Rattle.tm_outcomes.specs.declared.violations.Violation.{Violation}
use Rattle.tm_outcomes.proofs.violations.is_told.Goals as goal

pub returns-then-told-check : goal.returns-then-told-check
returns-then-told-check c = (
  λ _. (c.loop-told.told-index, c.told-item.result, c.loop-told-test.true, sym c.told-item.is, c.if-told-check.true),
  λ _. refl,
)

pub loop-told-preserved : goal.loop-told-preserved
loop-told-preserved c = λ index other below same. elim (cases_lt index c.loop-told.told-index) [
  | inl less ↦ c.loop-told.invariant index other less same
  | inr more ↦
      let violations = c.args.violations.now in
      let at = c.loop-told.told-index in
      let last : index ≡ at = omega arith in
      let item : get_or violations at other ≡ c.told-item.result =
      get_or_default violations at other c.told-item.result c.loop-told-test.true ∙ sym c.told-item.is in
      let here : (get_or violations at other).check ≡ c.args.check =
      subst (λ n. (get_or violations n other).check ≡ c.args.check) last same in
      c.if-told-check.false (sym (ap (λ (t : Violation). t.check) item) ∙ here)
]

pub returns : goal.returns
returns c = (
  λ no. absurd (false≢true no),
  λ told. absurd (c.loop-told.invariant told.0 told.1 (let below = told.2 in omega arith)
      (ap (λ (t : Violation). t.check) told.3 ∙ told.4)),
)
