use Rattle.std.proofs.Common.{sym, ◌∙◌, ap, map, Option}
use Rattle.std.specs.Prelude.{option_map}
use Rattle.ia_item.specs.declared.symbol.Definition.{Definition}
use Rattle.ia_lex.specs.Tokens.{lexeme_of}
use Rattle.ia_source.specs.Contents.{Equ, definition_name, expression_content}
use Rattle.ia_source.specs.Statements.{equ_item}
use Rattle.ia_source.proofs.statement.read_equ.Goals as goal

pub returns-in-Some-2-clause-item : goal.returns-in-Some-2-clause-item
returns-in-Some-2-clause-item c r h =
    ap (option_map (Equ (definition_name r c.in-Some.definition)))
    (sym (ap (option_map (expression_content r.naming)) c.in-Some-2.is)
    ∙ c.in_ok-expression-in-Some.ensures.expression r.naming h)
    ∙ sym (ap (λ (l : Option Definition). equ_item c.args.names.now.scope.text.now (option_map (definition_name r) l)
    (map lexeme_of c.args.tokens.now)) c.in-Some.is)

pub returns-in-None-2-clause-item : goal.returns-in-None-2-clause-item
returns-in-None-2-clause-item c r h =
    ap (option_map (Equ (definition_name r c.in-Some.definition)))
    (sym (ap (option_map (expression_content r.naming)) c.in-None-2.is)
    ∙ c.in_ok-expression-in-Some.ensures.expression r.naming h)
    ∙ sym (ap (λ (l : Option Definition). equ_item c.args.names.now.scope.text.now (option_map (definition_name r) l)
    (map lexeme_of c.args.tokens.now)) c.in-Some.is)
