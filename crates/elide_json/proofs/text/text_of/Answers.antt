use Rattle.std.proofs.Common.{string_bytes}
use Rattle.serde_json.proofs.FreeTexts.{text_of_value}
use Rattle.elide_json.proofs.text.text_of.Goals as goal

pub returns-in-Ok : goal.returns-in-Ok
returns-in-Ok g c =
    let events = c.in-Ok.ensures.events in
    λ value sends none. text_of_value value events.0 (string_bytes c.in-Ok.text) (sends events.0 events.1) events.2 none
