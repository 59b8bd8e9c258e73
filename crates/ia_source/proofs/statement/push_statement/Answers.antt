use Rattle.std.proofs.Common.{sym, ◌∙◌, ap, map}
use Rattle.std.specs.Prelude.{option_map}
use Rattle.ia_lex.specs.Tokens.{lexeme_of}
use Rattle.ia_source.specs.declared.head.Statement.{Statement}
use Rattle.ia_source.specs.Contents.{definition_name, entry_content, item_content}
use Rattle.ia_source.specs.Statements.{add_some, statement_onto, state_content}
use Rattle.ia_source.proofs.AddedEntries.{told}
use Rattle.ia_source.proofs.statement.push_statement.Goals as goal

pub returns-in_ok-item-in-Code-clause-entries : goal.returns-in_ok-item-in-Code-clause-entries
returns-in_ok-item-in-Code-clause-entries c r h =
    let scope = c.args.names.now.scope.text.now in
    let at = state_content scope c.args.context.state in
    let es = map (entry_content r) c.args.entries.now.list.items in
    let name = option_map (definition_name r) c.args.context.label in
    let ts = map lexeme_of c.args.context.tokens.now in
    told c.push_some.result (add_some es at (option_map (item_content r) c.in_ok-item-in-Code.item))
    (statement_onto es at name c.args.statement ts) (map (entry_content r) c.push_some.new.entries.list.items)
    c.args.context.state.line
    (ap (λ (w : Statement). statement_onto es at name w ts) c.in-Code.is
    ∙ ap (add_some es at) (sym (c.in_ok-item-in-Code.ensures.item r h)))
    (c.push_some.ensures r scope)
