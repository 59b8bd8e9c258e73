use Rattle.std.proofs.Common.{inl, inr, length, sym, ◌∙◌, arith}
use Rattle.std.proofs.lemmas.Bool.{cases_lt}
use Rattle.std.proofs.lemmas.List.{get_or_past}
use Rattle.tm_core.proofs.reopen_lines.reopen_line.Goals as goal

pub returns-clause-here : goal.returns-clause-here
returns-clause-here c = λ address is.
    let memory = c.loop-at.memory in
    let opening = c.args.opening.now in
    let inv = c.loop-at.invariant in
    elim (cases_lt address (length opening)) [
      | inl below ↦ inv.done address (let start = is in omega arith)
          (let high = c.end_of-end.ensures.all address is (let same = c.requires in omega arith) in
          let over = c.loop-at-test.false in omega arith)
      | inr above ↦ get_or_past memory address 0 (let count = inv.count in omega arith)
          ∙ sym (get_or_past opening address 0 above)
    ]
