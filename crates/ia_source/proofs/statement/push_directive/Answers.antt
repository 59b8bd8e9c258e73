use Rattle.std.proofs.Common.{sym, ◌∙◌, ap, map}
use Rattle.std.specs.Prelude.{option_map}
use Rattle.ia_lex.specs.Tokens.{lexeme_of}
use Rattle.ia_source.specs.declared.directive.Directive.{Directive}
use Rattle.ia_source.specs.Contents.{definition_name, entry_content, item_content}
use Rattle.ia_source.specs.Statements.{add_some, directive_onto, state_content}
use Rattle.ia_source.proofs.AddedEntries.{told}
use Rattle.ia_source.proofs.statement.push_directive.Goals as goal

pub returns-in-Org-clause-entries : goal.returns-in-Org-clause-entries
unfolding directive_onto
returns-in-Org-clause-entries c r h =
    let scope = c.args.names.now.scope.text.now in
    let at = state_content scope c.args.context.state in
    let es = map (entry_content r) c.args.entries.now.list.items in
    let name = option_map (definition_name r) c.args.context.label in
    let ts = map lexeme_of c.args.context.tokens.now in
    told c.push_some.result (add_some es at (option_map (item_content r) c.read_org.result))
    (directive_onto es at name c.args.directive ts) (map (entry_content r) c.push_some.new.entries.list.items)
    c.args.context.state.line
    (ap (λ (d : Directive). directive_onto es at name d ts) c.in-Org.is
    ∙ ap (add_some es at) (sym (c.read_org.ensures r scope)))
    (c.push_some.ensures r scope)

pub returns-in-Align-clause-entries : goal.returns-in-Align-clause-entries
unfolding directive_onto
returns-in-Align-clause-entries c r h =
    let scope = c.args.names.now.scope.text.now in
    let at = state_content scope c.args.context.state in
    let es = map (entry_content r) c.args.entries.now.list.items in
    let name = option_map (definition_name r) c.args.context.label in
    let ts = map lexeme_of c.args.context.tokens.now in
    told c.push_some-in-Align.result (add_some es at (option_map (item_content r) c.read_align.result))
    (directive_onto es at name c.args.directive ts) (map (entry_content r) c.push_some-in-Align.new.entries.list.items)
    c.args.context.state.line
    (ap (λ (d : Directive). directive_onto es at name d ts) c.in-Align.is
    ∙ ap (add_some es at) (sym (c.read_align.ensures r)))
    (c.push_some-in-Align.ensures r scope)

pub returns-in_ok-item-in-Resb-clause-entries : goal.returns-in_ok-item-in-Resb-clause-entries
unfolding directive_onto
returns-in_ok-item-in-Resb-clause-entries c r h =
    let scope = c.args.names.now.scope.text.now in
    let at = state_content scope c.args.context.state in
    let es = map (entry_content r) c.args.entries.now.list.items in
    let name = option_map (definition_name r) c.args.context.label in
    let ts = map lexeme_of c.args.context.tokens.now in
    told c.push_some-in-Resb.result (add_some es at (option_map (item_content r) c.in_ok-item-in-Resb.item))
    (directive_onto es at name c.args.directive ts) (map (entry_content r) c.push_some-in-Resb.new.entries.list.items)
    c.args.context.state.line
    (ap (λ (d : Directive). directive_onto es at name d ts) c.in-Resb.is
    ∙ ap (add_some es at) (sym (c.in_ok-item-in-Resb.ensures.item r h)))
    (c.push_some-in-Resb.ensures r scope)

pub returns-in_ok-item-in-Equ-clause-entries : goal.returns-in_ok-item-in-Equ-clause-entries
unfolding directive_onto
returns-in_ok-item-in-Equ-clause-entries c r h =
    let scope = c.args.names.now.scope.text.now in
    let at = state_content scope c.args.context.state in
    let es = map (entry_content r) c.args.entries.now.list.items in
    let name = option_map (definition_name r) c.args.context.label in
    let ts = map lexeme_of c.args.context.tokens.now in
    told c.push_some-in-Equ.result (add_some es at (option_map (item_content r) c.in_ok-item-in-Equ.item))
    (directive_onto es at name c.args.directive ts) (map (entry_content r) c.push_some-in-Equ.new.entries.list.items)
    c.args.context.state.line
    (ap (λ (d : Directive). directive_onto es at name d ts) c.in-Equ.is
    ∙ ap (add_some es at) (sym (c.in_ok-item-in-Equ.ensures.item r h)))
    (c.push_some-in-Equ.ensures r scope)
