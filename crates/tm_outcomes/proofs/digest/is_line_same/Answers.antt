use Rattle.std.proofs.Common.{inl, inr, length, sym, ◌∙◌, arith}
use Rattle.std.proofs.lemmas.Bool.{cases_lt}
use Rattle.std.proofs.lemmas.List.{get_or_past}
use Rattle.tm_outcomes.proofs.digest.is_line_same.Goals as goal

pub returns-clause-same : goal.returns-clause-same
returns-clause-same c = λ same address is.
    let these = c.args.these.now in
    let those = c.args.those.now in
    let so_far = c.loop-at.invariant in
    elim (cases_lt address (length these)) [
      | inl below ↦
          so_far.so_far same address (let start = is in omega arith)
          (let high = c.end_of-end.ensures.all address is below in let over = c.loop-at-test.false in omega arith)
      | inr above ↦
          get_or_past these address 0 above
          ∙ sym (get_or_past those address 0 (let counted = so_far.counted in omega arith))
    ]
