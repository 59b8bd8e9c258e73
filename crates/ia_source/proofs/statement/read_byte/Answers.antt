use Rattle.std.proofs.Common.{◌≡◌, List, Option, None, sym, ◌∙◌, ap, map}
use Rattle.std.specs.Prelude.{ℕ, option_map}
use denote.Bor.{Bor}
use Rattle.ia_lex.specs.Tokens.{lexeme_of}
use Rattle.ia_source.specs.Contents.{Byte, expression_content}
use Rattle.ia_source.specs.Statements.{only_text, text_or, expression_in}
use Rattle.ia_source.proofs.statement.read_byte.Goals as goal

no_text : (t : Option (Bor (List ℕ))) (u : Option (List ℕ)) → option_map (λ b. b.now) t ≡ u → t ≡ None → u ≡ None
no_text t u e f = sym e ∙ ap (option_map (λ (b : Bor (List ℕ)). b.now)) f

pub returns-in-Some-2-clause-item : goal.returns-in-Some-2-clause-item
returns-in-Some-2-clause-item c r h =
    let ts = map lexeme_of c.args.tokens.now in
    let scope = c.args.names.now.scope.text.now in
    ap (option_map Byte)
    (sym (ap (option_map (expression_content r.naming)) c.in-Some-2.is)
    ∙ c.in_ok-expression.ensures.expression r.naming h)
    ∙ sym (ap (λ t. text_or t (option_map Byte (expression_in scope ts)))
    (no_text c.only_text.result (only_text ts) c.only_text.ensures c.in_default.is))

pub returns-in-None-clause-item : goal.returns-in-None-clause-item
returns-in-None-clause-item c r h =
    let ts = map lexeme_of c.args.tokens.now in
    let scope = c.args.names.now.scope.text.now in
    ap (option_map Byte)
    (sym (ap (option_map (expression_content r.naming)) c.in-None.is)
    ∙ c.in_ok-expression.ensures.expression r.naming h)
    ∙ sym (ap (λ t. text_or t (option_map Byte (expression_in scope ts)))
    (no_text c.only_text.result (only_text ts) c.only_text.ensures c.in_default.is))
