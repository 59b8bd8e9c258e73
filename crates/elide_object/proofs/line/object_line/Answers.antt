use Rattle.std.proofs.Common.{◌≡◌, ◌++◌, ◌∙◌, ap, string_bytes}
use Rattle.std.proofs.lemmas.Result.{IfOk-weaker}
use Rattle.text_out.specs.TextLine.{line_end}
use Rattle.serde_json.proofs.FreeTexts.{text_of_value}
use Rattle.elide_object.specs.Object.{object_text}
use Rattle.elide_object.proofs.line.object_line.Goals as goal

pub returns-in-Ok : goal.returns-in-Ok
unfolding object_text
returns-in-Ok g c =
    let text = string_bytes c.in-Ok.text in
    let events = c.in-Ok.ensures.events in
    IfOk-weaker c.ended.result (λ line. string_bytes line ≡ text ++ line_end) _
    (λ line ended value sends none.
    ended ∙ ap (λ l. l ++ line_end) (text_of_value value events.0 text (sends events.0 events.1) events.2 none))
    c.ended.ensures
