use Rattle.std.proofs.Common.{◌≡◌, ◌∙◌, ℕ, List, ap, subst}
use Rattle.std.specs.Prelude.{IfOk, string_bytes}
use Rattle.elide_object.specs.Object.{object_text}
use Rattle.tm_hunt.specs.Deciding.{deciding}
use Rattle.elide_hunt.specs.Lines.{told_command}
use Rattle.elide_hunt.specs.Object.{failure_value, hunt_value}
use Rattle.elide_hunt.proofs.object.failure_line.Goals as goal

pub returns : goal.returns
returns c =
    let options = c.args.options.now in
    let search = c.args.search.now in
    let found = c.args.found.now in
    let told : c.in-Ok.replay.now ≡ told_command options found.run (deciding found.failure) =
    c.in-Ok.ensures.cases.0
    ∙ (c.as_slice.ensures.value
    ∙ (c.in_ok-command.ensures ∙ ap (told_command options found.run) c.deciding.ensures)) in
    subst (λ (replay : List ℕ). IfOk c.line_of.result (λ line. string_bytes line
    ≡ object_text (hunt_value search.ended search.cut (failure_value options c.args.beside.now replay found) 3)))
    told c.line_of.ensures
