use Rattle.std.proofs.Common.{◌∙◌, ◌++◌, ap, rules}
use Rattle.text_out.proofs.Writing.{writes_stopped, writes_then}
use Rattle.elide_setup.specs.Shown.{value_line, value_text}
use Rattle.elide_setup.proofs.ShownTexts.{writes_same}
use Rattle.elide_setup.proofs.shown.show_value.Goals as goal

pub returns-in_err-put : goal.returns-in_err-put
returns-in_err-put g c = writes_same _ _ _ _ c.from_residual.result
    (ap (λ l. l ++ value_text c.read-value.result) c.as_bytes.ensures.value
    ∙ ap (value_line c.args.sum.now) c.read-value.ensures.value)
    (writes_stopped (value_text c.read-value.result) c.from_residual.result (search rules) c.in_err-put.ensures)

pub returns : goal.returns
returns g c = writes_same _ _ _ _ c.show_number.result
    (ap (λ l. l ++ value_text c.read-value.result) c.as_bytes.ensures.value
    ∙ ap (value_line c.args.sum.now) c.read-value.ensures.value)
    (writes_then _ (value_text c.read-value.result) c.show_number.result c.in_ok-put.ensures c.show_number.ensures)
