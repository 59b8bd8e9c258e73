use Rattle.std.proofs.Common.{◌≡◌, inl, inr, refl, sym, ap, ◌∙◌, subst, get_or, arith}
use Rattle.std.proofs.lemmas.Bool.{cases_lt, false≢true}
use Rattle.std.proofs.lemmas.List.{get_or_default}
use Rattle.tm_outcomes.specs.declared.stops.ReachedStop.{ReachedStop}
use Rattle.tm_outcomes.proofs.stops.is_told.Goals as goal

pub returns-then-is_same : goal.returns-then-is_same
returns-then-is_same c = (
  λ _. (
    c.loop-told.told-index,
    c.told-item.result,
    c.loop-told-test.true,
    sym c.told-item.is,
    c.is_same.ensures.0 c.if-is_same.true,
  ),
  λ _. refl,
)

pub loop-told-preserved : goal.loop-told-preserved
loop-told-preserved c = λ index other below same. elim (cases_lt index c.loop-told.told-index) [
  | inl less ↦ c.loop-told.invariant index other less same
  | inr more ↦
      let stops = c.args.stops.now in
      let at = c.loop-told.told-index in
      let last : index ≡ at = omega arith in
      let item : get_or stops at other ≡ c.told-item.result =
      get_or_default stops at other c.told-item.result c.loop-told-test.true ∙ sym c.told-item.is in
      let here : (get_or stops at other).why ≡ c.args.why =
      subst (λ n. (get_or stops n other).why ≡ c.args.why) last same in
      false≢true (sym c.if-is_same.false ∙ c.is_same.ensures.1 (sym (ap (λ (t : ReachedStop). t.why) item) ∙ here))
]

pub returns : goal.returns
returns c = (
  λ no. absurd (false≢true no),
  λ told. absurd (c.loop-told.invariant told.0 told.1 (let below = told.2 in omega arith)
      (ap (λ (t : ReachedStop). t.why) told.3 ∙ told.4)),
)
