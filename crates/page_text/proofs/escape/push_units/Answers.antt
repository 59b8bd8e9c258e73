use Rattle.std.proofs.Common.{◌+◌, ◌-◌, ◌/◌, ◌%◌, ◌++◌, ◌∙◌, ap, sym, append_assoc}
use Rattle.std.specs.Prelude.{if◌then◌else◌}
use Rattle.std.proofs.lemmas.Bool.{le-ltb}
use Rattle.page_text.specs.Escaped.{unit_text}
use Rattle.page_text.proofs.escape.push_units.Goals as goal

pub returns-else-code-lt65536-clause-text : goal.returns-else-code-lt65536-clause-text
returns-else-code-lt65536-clause-text c =
    let old = c.args.page.now.items in
    let high = unit_text (0xD800 + (c.args.code - 0x10000) / 1024) in
    let low = unit_text (0xDC00 + (c.args.code - 0x10000) % 1024) in
    c.push_unit-else-code-lt65536-2.ensures.text ∙ ap (λ t. t ++ low) c.push_unit-else-code-lt65536.ensures.text
    ∙ append_assoc old high low
    ∙ ap (λ b. old ++ (if b then unit_text c.args.code else high ++ low)) (sym
    (le-ltb c.args.code 0x10000 c.if-code-lt65536.false))
