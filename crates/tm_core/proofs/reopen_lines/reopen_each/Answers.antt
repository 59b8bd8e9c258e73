use Rattle.std.proofs.Common.{◌≡◌, inl, inr, ◌/◌, get_or, sym, ◌∙◌, subst, arith}
use Rattle.std.proofs.lemmas.Bool.{cases_lt}
use Rattle.std.proofs.lemmas.List.{ext_get_or, get_or_default}
use Rattle.tm_core.proofs.reopen_lines.reopen_each.Goals as goal

pub loop-line-init : goal.loop-line-init
loop-line-init c = record {
  count = c.requires.count;
  same = λ address. elim (c.requires.same address) [
    | inl among ↦ inl (among.0, (omega arith), among.1, among.2)
    | inr same ↦ inr same
  ];
}

pub loop-line-preserved : goal.loop-line-preserved
loop-line-preserved c =
    let lines = c.args.lines.now in
    let at = c.loop-line.line-index in
    record {
      count = c.reopen_line.ensures.count ∙ c.loop-line.invariant.count;
      same = λ address. elim (c.loop-line.invariant.same address) [
        | inl among ↦
            elim (cases_lt at among.0) [
              | inl later ↦ inl (among.0, (omega arith), among.2, among.3)
              | inr here ↦
                  let low = among.1 in
                  let last : among.0 ≡ at = omega arith in
                  inr (c.reopen_line.ensures.here address
                  (sym (subst (λ n. get_or lines n (address / 64) ≡ address / 64) last among.3)
                  ∙ get_or_default lines at (address / 64) _ c.loop-line-test.true))
            ]
        | inr same ↦ inr (c.reopen_line.ensures.kept address same)
      ];
    }

pub returns : goal.returns
returns c = ext_get_or 0 _ c.args.opening.now c.loop-line.invariant.count
    (λ address below. elim (c.loop-line.invariant.same address) [
      | inl among ↦ absurd (let low = among.1 in let high = among.2 in let over = c.loop-line-test.false in omega arith)
      | inr same ↦ same
    ])
