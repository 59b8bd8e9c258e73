use Rattle.std.proofs.Common.{◌≡◌, Bool, sym, ◌∙◌, ap, map, subst}
use Rattle.std.specs.Prelude.{option_map, IfOk}
use Rattle.ia_lex.specs.Tokens.{lexeme_of}
use Rattle.ia_names.specs.Namings.{IsNaming}
use Rattle.ia_source.specs.Contents.{Reading, Long, expression_content, item_content}
use Rattle.ia_source.specs.Statements.{value_item}
use Rattle.ia_source.proofs.statement.read_value.Goals as goal

pub returns-in-Some-clause-item : goal.returns-in-Some-clause-item
returns-in-Some-clause-item c r h =
    ap (option_map Long)
    (sym (ap (option_map (expression_content r.naming)) c.in-Some.is)
    ∙ c.in_ok-expression.ensures.expression r.naming h)
    ∙ sym (ap (λ l. value_item l c.args.names.now.scope.text.now (map lexeme_of c.args.tokens.now)) c.if-long.true)

pub returns-in-None-clause-item : goal.returns-in-None-clause-item
returns-in-None-clause-item c r h =
    ap (option_map Long)
    (sym (ap (option_map (expression_content r.naming)) c.in-None.is)
    ∙ c.in_ok-expression.ensures.expression r.naming h)
    ∙ sym (ap (λ l. value_item l c.args.names.now.scope.text.now (map lexeme_of c.args.tokens.now)) c.if-long.true)

pub returns-else-long-clause-item : goal.returns-else-long-clause-item
returns-else-long-clause-item c =
    subst (λ (l : Bool). IfOk c.read_byte.result (λ i. (r : Reading) → IsNaming r.naming c.read_byte.new.names
    → option_map (item_content r) i ≡ value_item l c.args.names.now.scope.text.now (map lexeme_of c.args.tokens.now)))
    (sym c.if-long.false) c.read_byte.ensures.item
