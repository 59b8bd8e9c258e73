use Rattle.std.proofs.Common.{◌++◌, ◌∙◌, ap, sym, append_assoc}
use Rattle.std.specs.Prelude.{codes}
use Rattle.text_out.specs.Number.{hex_digits}
use Rattle.page_text.specs.Escaped.{escaped_char}
use Rattle.page_text.proofs.Writing.{number_is}
use Rattle.page_text.proofs.shown.push_by_number.Goals as goal

pub returns-clause-text : goal.returns-clause-text
returns-clause-text c =
    let old = c.args.page.now.items in
    let backslash = escaped_char c.args.escape 92 in
    let digits = hex_digits c.args.code in
    c.push-2.ensures.text ∙ ap (λ t. t ++ codes "}") c.push_hex.ensures.text
    ∙ ap (λ t. (t ++ digits) ++ codes "}") c.push.ensures.text
    ∙ ap (λ t. ((t ++ codes "u{") ++ digits) ++ codes "}") c.push_escaped.ensures.text
    ∙ append_assoc ((old ++ backslash) ++ codes "u{") digits (codes "}")
    ∙ append_assoc (old ++ backslash) (codes "u{") (digits ++ codes "}")
    ∙ append_assoc old backslash (codes "u{" ++ (digits ++ codes "}"))
    ∙ ap (λ t. old ++ t) (sym (number_is c.args.escape c.args.code))
