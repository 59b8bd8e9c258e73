use Rattle.std.proofs.Common.{rules, ◌++◌, ◌∷◌, [], codes}
use Rattle.text_out.proofs.Writing.{writes_stopped, writes_then}
use Rattle.page_text.specs.declared.escape.Escape.TheVariants.{Json}
use Rattle.page_text.specs.Escaped.{escaped, string_text}
use Rattle.page_text.specs.Shown.{shown}
use Rattle.page_text.proofs.text.write_string.Goals as goal

pub returns-in_err-put-clause-text : goal.returns-in_err-put-clause-text
returns-in_err-put-clause-text g c =
    let inner = escaped Json (shown c.args.most c.args.text.now) in
    writes_stopped (inner ++ 34 ∷ []) c.from_residual.result (search rules) c.in_err-put.ensures

pub returns-in_err-write_shown-clause-text : goal.returns-in_err-write_shown-clause-text
returns-in_err-write_shown-clause-text g c =
    let inner = escaped Json (shown c.args.most c.args.text.now) in
    let r = c.from_residual-in_err-write_shown.result in
    writes_then _ (inner ++ 34 ∷ []) r c.in_ok-put.ensures (writes_stopped (34 ∷ []) r
    (search rules) c.in_err-write_shown.ensures)

pub returns-in_err-put-2-clause-text : goal.returns-in_err-put-2-clause-text
returns-in_err-put-2-clause-text g c =
    let inner = escaped Json (shown c.args.most c.args.text.now) in
    let r = c.from_residual-in_err-put-2.result in
    writes_then _ (inner ++ 34 ∷ []) r c.in_ok-put.ensures
    (writes_then _ (34 ∷ []) r c.in_ok-write_shown.ensures (search (rules, c.in_err-put-2.ensures)))
