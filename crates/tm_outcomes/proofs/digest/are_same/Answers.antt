use Rattle.std.proofs.Common.{◌≡◌, inl, inr, ◌/◌, get_or, refl, sym, ◌∙◌, subst, arith}
use Rattle.std.proofs.lemmas.Bool.{cases_lt}
use Rattle.std.proofs.lemmas.List.{ext_get_or, get_or_default}
use Rattle.tm_outcomes.proofs.digest.are_same.Goals as goal

pub is_line_same-requires : goal.is_line_same-requires
is_line_same-requires c = c.requires.these.count ∙ sym c.requires.those.count

pub loop-line-preserved : goal.loop-line-preserved
loop-line-preserved c = λ index address below is. elim (cases_lt index c.loop-line.line-index) [
  | inl less ↦ c.loop-line.invariant index address less is
  | inr more ↦
      let lines = c.args.lines.now in
      let last : index ≡ c.loop-line.line-index = omega arith in
      c.is_line_same.ensures.same c.if-not-is_line_same.false address
      (sym (subst (λ n. get_or lines n (address / 64) ≡ address / 64) last is)
      ∙ get_or_default lines c.loop-line.line-index (address / 64) _ c.loop-line-test.true)
]

pub returns : goal.returns
returns c = (
  λ _. ext_get_or 0 c.args.these.now c.args.those.now (c.requires.these.count ∙ sym c.requires.those.count)
      (λ address below. elim (c.requires.these.same address) [
        | inl among ↦
            c.loop-line.invariant among.0 address
            (let within = among.1 in let over = c.loop-line-test.false in omega arith) among.2
        | inr here ↦ elim (c.requires.those.same address) [
          | inl among ↦
              c.loop-line.invariant among.0 address
              (let within = among.1 in let over = c.loop-line-test.false in omega arith) among.2
          | inr there ↦ here ∙ sym there
        ]
      ]),
  λ _. refl,
)
