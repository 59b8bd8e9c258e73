use Rattle.std.proofs.Common.{◌≡◌, Option, None, List, sym, ◌∙◌, ap, map}
use Rattle.std.specs.Prelude.{ℕ, option_map}
use Rattle.ia_lex.specs.Tokens.{lexeme_of}
use Rattle.ia_source.specs.Contents.{EntryContent, ItemContent, entry_content, item_content}
use Rattle.ia_source.specs.Statements.{Values, add_some, by_number, plain_number, value_item, value_onto}
use Rattle.ia_source.specs.Statements.{values_content, with_entries, with_run, state_content}
use Rattle.ia_source.proofs.AddedEntries.{told_too}
use Rattle.ia_source.proofs.values.push_value.Goals as goal

pub returns-in_ok-item-in-None-clause-value : goal.returns-in_ok-item-in-None-clause-value
returns-in_ok-item-in-None-clause-value c r h =
    let scope = c.args.names.now.scope.text.now in
    let at = state_content scope c.args.value.state in
    let long = c.args.value.long in
    let ts = map lexeme_of c.args.value.tokens.now in
    let v : Values = values_content r c.args.entries.now.list.items c.args.run.now.items in
    let item = option_map (item_content r) c.in_ok-item-in-None.item in
    let mid = map (entry_content r) c.push_run.new.entries.list.items in
    let plain : plain_number long ts ≡ None = sym c.plain_number.ensures.number ∙ c.in-None.is in
    told_too c.push_some.result (add_some mid at item) (value_onto long at v ts)
    (map (entry_content r) c.push_some.new.entries.list.items) c.push_run.new.run.items c.args.value.state.line
    (ap (λ (n : Option ℕ). by_number n long v
    (with_entries (add_some (with_run v.entries at v.run) at (value_item long scope ts)))) plain
    ∙ ap (λ (es : List EntryContent). with_entries (add_some es at (value_item long scope ts)))
    (sym (c.in_ok-push_run-in-None.ensures.entries r scope))
    ∙ ap (λ (i : Option ItemContent). with_entries (add_some mid at i)) (sym (c.in_ok-item-in-None.ensures.item r h)))
    c.in_ok-push_run-in-None.ensures.run
    (c.push_some.ensures r scope)
