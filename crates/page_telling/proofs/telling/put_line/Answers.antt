use Rattle.std.proofs.Common.{◌≡◌, ◌∙◌, ℕ, List, subst}
use Rattle.std.proofs.lemmas.Result.{on_ok_weaker}
use Rattle.page_run.specs.Plain.{ArePlain}
use Rattle.page_steps.proofs.Texts.{then_on_ok}
use Rattle.page_steps.specs.Steps.{step_text}
use Rattle.page_telling.proofs.Lines.{both_plain}
use Rattle.page_telling.specs.Told.{line_front}
use Rattle.page_telling.proofs.telling.put_line.Goals as goal

pub returns-clause-text : goal.returns-clause-text
returns-clause-text g c =
    let front = rw c.before_line.ensures at c.in_ok-put_plain.ensures.text in
    let listed = rw c.as_slice.ensures.value at c.put_plain-2.ensures.text in
    let line = rw c.in_ok-line.ensures at listed in
    then_on_ok _ (step_text c.args.delta.now c.args.before) c.put_plain-2.result front line

pub returns-clause-plain : goal.returns-clause-plain
returns-clause-plain g c =
    let text : List ℕ = step_text c.args.delta.now c.args.before in
    let front : ArePlain (line_front c.args.is_first) =
    subst ArePlain c.before_line.ensures c.in_ok-put_plain.ensures.plain in
    let line : c.as_slice.result.now ≡ text = c.as_slice.ensures.value ∙ c.in_ok-line.ensures in
    on_ok_weaker c.put_plain-2.result
    (λ (h : ArePlain c.as_slice.result.now). both_plain (line_front c.args.is_first) text front (subst ArePlain line h))
    c.put_plain-2.ensures.plain
