use Rattle.std.proofs.Common.{◌∙◌, refl, sym}
use Rattle.symbols.specs.Shown.{shown_name}
use Rattle.symbols.proofs.Showing.{plain_text}
use Rattle.symbols.proofs.shown.shown_otherwise.Goals as goal

pub returns-then-is_shown_as_it_is : goal.returns-then-is_shown_as_it_is
returns-then-is_shown_as_it_is c =
    let name = c.args.name.now in
    let plain = sym c.is_shown_as_it_is.ensures ∙ c.if-is_shown_as_it_is.true in
    sym (plain_text name (shown_name name) refl plain)
