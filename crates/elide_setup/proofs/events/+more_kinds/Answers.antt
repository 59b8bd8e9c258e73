use Rattle.std.proofs.Common.{◌≡◌, ◌∙◌, None, Some, ap, rules, sym}
use Rattle.std.specs.Option.{option_copied}
use Rattle.elide_setup.proofs.EventTexts.{kinds_first, kinds_none}
use Rattle.elide_setup.proofs.events.+more_kinds.Goals as goal

pub returns-in_err-kinds : goal.returns-in_err-kinds
returns-in_err-kinds t c =
    let none : c.from_residual.result ≡ None = search rules in
    none ∙ kinds_none c.args.kinds c.args.text.now c.cut.result.0.now c.cut.ensures.front c.in_err-kinds.ensures

pub returns-in-Some : goal.returns-in-Some
returns-in-Some t c =
    c.more_kinds.ensures
    ∙ kinds_first c.args.kinds c.args.text.now c.cut.result.0.now c.in-Some.names.now (Some c.in_ok-kinds.kinds)
    c.cut.ensures.front
    (ap option_copied (sym c.in-Some.is) ∙ c.cut.ensures.behind) c.in_ok-kinds.ensures
