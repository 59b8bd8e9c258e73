use Rattle.std.proofs.Common.{◌≡◌, ℕ, List, Option, Some, sym, ◌∙◌, ap, map}
use Rattle.std.specs.Prelude.{option_map}
use Rattle.ia_item.specs.declared.name.Scope.{Scope}
use Rattle.ia_lex.specs.Tokens.{lexeme_of, tokens_of}
use Rattle.ia_names.proofs.Namings.{naming_less}
use Rattle.ia_source.specs.Contents.{EntryContent, definition_name, entry_content}
use Rattle.ia_source.specs.Heads.{Head, head_content}
use Rattle.ia_source.specs.Statements.{StateContent, statement_onto, with_label, behind, state_content}
use Rattle.ia_source.specs.Source.{label_onto, label_name, source_content, line_onto}
use Rattle.ia_source.proofs.ReadLines.{line_is, twice_told, bad_told, is_read, statement_of, bad_same}
use Rattle.ia_source.proofs.line.push_line.Goals as goal

pub returns-in-Err-clause-line : goal.returns-in-Err-clause-line
returns-in-Err-clause-line c r naming =
    let s = source_content r c.args.line.state c.args.names.now c.args.defined.now c.args.entries.now.list.items in
    let h : Head = head_content c.in-Some.head in
    let words : tokens_of c.args.line.text.now ≡ Some (map lexeme_of c.deref.result.now) =
    c.in-Ok.ensures ∙ ap (λ (l : List _). Some (map lexeme_of l)) (sym c.deref.ensures.value) in
    twice_told s h c.in-Err.fault (line_onto s c.args.line.text.now)
    (line_is s c.args.line.text.now (map lexeme_of c.deref.result.now) h words (sym c.in-Some.ensures))
    (c.in-Err.ensures.new r.naming naming)

pub returns-in-Ok-push_statement-clause-line : goal.returns-in-Ok-push_statement-clause-line
returns-in-Ok-push_statement-clause-line c r naming =
    let s = source_content r c.args.line.state c.args.names.now c.args.defined.now c.args.entries.now.list.items in
    let h : Head = head_content c.in-Some.head in
    let words : tokens_of c.args.line.text.now ≡ Some (map lexeme_of c.deref.result.now) =
    c.in-Ok.ensures ∙ ap (λ (l : List _). Some (map lexeme_of l)) (sym c.deref.ensures.value) in
    let entered =
    naming_less r.naming c.enter.new.names c.push_statement.new.names c.push_statement.ensures.grows naming in
    let defined = naming_less r.naming c.define.new.names c.enter.new.names c.enter.ensures.grows entered in
    let scope = c.args.names.now.scope.text.now in
    let label = option_map (definition_name r) c.in-Ok-define.label in
    let name : label ≡ label_name scope h.label = c.in-Ok-define.ensures.name r defined in
    let at : state_content c.enter.new.names.scope.text.now c.args.line.state ≡ with_label s.at h.label h.statement =
    c.enter.ensures.scope c.args.line.state
    ∙ ap (λ (x : Scope). with_label (state_content x.text.now c.args.line.state) h.label h.statement)
    c.define.ensures.scope in
    let labelled :
    map (entry_content r) c.push_label.new.entries.list.items
    ≡ label_onto s.entries s.at (label_name scope h.label) h.statement =
    c.in_ok-push_label.ensures r scope ∙ ap (λ (n : Option (List ℕ)). label_onto s.entries s.at n h.statement) name in
    is_read s h
    (source_content r c.behind.result c.push_statement.new.names c.define.new.defined
    c.push_statement.new.entries.list.items) (line_onto s c.args.line.text.now)
    (line_is s c.args.line.text.now (map lexeme_of c.deref.result.now) h words (sym c.in-Some.ensures))
    (c.in-Ok-define.ensures.new r.naming defined)
    (c.behind.ensures c.push_statement.new.names.scope.text.now
    ∙ ap (λ (x : Scope). behind (state_content x.text.now c.args.line.state) h.statement h.rest)
    c.push_statement.ensures.scope
    ∙ ap (λ (a : StateContent). behind a h.statement h.rest) at)
    (c.in-Ok-define.ensures.names r.naming defined)
    (sym (ap (λ (es : List EntryContent). statement_onto es (with_label s.at h.label h.statement)
    (label_name scope h.label) h.statement h.rest) labelled)
    ∙ sym (ap (λ (a : StateContent). statement_onto (map (entry_content r) c.push_label.new.entries.list.items) a
    (label_name scope h.label) h.statement h.rest) at)
    ∙ sym (ap (λ (n : Option (List ℕ)). statement_onto (map (entry_content r) c.push_label.new.entries.list.items)
    (state_content c.enter.new.names.scope.text.now c.args.line.state) n h.statement h.rest) name)
    ∙ c.in-Ok-push_statement.ensures.entries r naming)

pub returns-clause-line : goal.returns-clause-line
returns-clause-line c r naming =
    let s = source_content r c.args.line.state c.args.names.now c.args.defined.now c.args.entries.now.list.items in
    let h : Head = head_content c.in-Some.head in
    let words : tokens_of c.args.line.text.now ≡ Some (map lexeme_of c.deref.result.now) =
    c.in-Ok.ensures ∙ ap (λ (l : List _). Some (map lexeme_of l)) (sym c.deref.ensures.value) in
    let entered =
    naming_less r.naming c.enter.new.names c.push_statement.new.names c.push_statement.ensures.grows naming in
    let defined = naming_less r.naming c.define.new.names c.enter.new.names c.enter.ensures.grows entered in
    let scope = c.args.names.now.scope.text.now in
    let label = option_map (definition_name r) c.in-Ok-define.label in
    let name : label ≡ label_name scope h.label = c.in-Ok-define.ensures.name r defined in
    let at : state_content c.enter.new.names.scope.text.now c.args.line.state ≡ with_label s.at h.label h.statement =
    c.enter.ensures.scope c.args.line.state
    ∙ ap (λ (x : Scope). with_label (state_content x.text.now c.args.line.state) h.label h.statement)
    c.define.ensures.scope in
    let labelled :
    map (entry_content r) c.push_label.new.entries.list.items
    ≡ label_onto s.entries s.at (label_name scope h.label) h.statement =
    c.in_ok-push_label.ensures r scope ∙ ap (λ (n : Option (List ℕ)). label_onto s.entries s.at n h.statement) name in
    bad_told s h c.in-Err-push_statement.fault (line_onto s c.args.line.text.now)
    (line_is s c.args.line.text.now (map lexeme_of c.deref.result.now) h words (sym c.in-Some.ensures))
    (c.in-Ok-define.ensures.new r.naming defined)
    (bad_same (statement_onto (map (entry_content r) c.push_label.new.entries.list.items)
    (state_content c.enter.new.names.scope.text.now c.args.line.state) label h.statement h.rest)
    (statement_of s h) c.args.line.state.line c.in-Err-push_statement.fault
    (ap (λ (n : Option (List ℕ)). statement_onto (map (entry_content r) c.push_label.new.entries.list.items)
    (state_content c.enter.new.names.scope.text.now c.args.line.state) n h.statement h.rest) name
    ∙ ap (λ (a : StateContent). statement_onto (map (entry_content r) c.push_label.new.entries.list.items) a
    (label_name scope h.label) h.statement h.rest) at
    ∙ ap (λ (es : List EntryContent). statement_onto es (with_label s.at h.label h.statement) (label_name scope h.label)
    h.statement h.rest) labelled)
    (c.in-Err-push_statement.ensures.entries r naming))
