use Rattle.std.proofs.Common.{◌-◌, List, Some, false, length, map, ap, sym, ◌∙◌}
use Rattle.ia_lex.specs.Tokens.{lexeme_of}
use Rattle.ia_lex.specs.Terms.{term_content, terms_at, with_terms, expression_at}
use Rattle.ia_lex.proofs.TermLists.{with_none, expr_plain, expr_signed}
use Rattle.ia_lex.proofs.read.expression.Goals as goal

pub returns-in-None-sign : goal.returns-in-None-sign
returns-in-None-sign c =
    c.behind_sign.ensures
    ∙ ap
    (λ l. with_terms (map term_content l) (terms_at (16 - length l) (Some false) (map lexeme_of c.args.tokens.now)))
    c.new.ensures
    ∙ with_none (terms_at 16 (Some false) (map lexeme_of c.args.tokens.now))
    ∙ ap (λ (l : List _). terms_at 16 (Some false) (map lexeme_of l)) c.in-Some.ensures.cases.0
    ∙ sym (expr_plain (lexeme_of c.in-Some.token.now) (map lexeme_of c.in-Some.rest.now) c.in-None-sign.ensures)
    ∙ ap (λ (l : List _). expression_at (map lexeme_of l)) (sym c.in-Some.ensures.cases.0)

pub returns-in-Some-sign : goal.returns-in-Some-sign
returns-in-Some-sign c =
    c.behind_sign-in-Some-sign.ensures
    ∙ ap (λ l. with_terms (map term_content l)
    (terms_at (16 - length l) (Some c.in-Some-sign.negative) (map lexeme_of c.in-Some.rest.now)))
    c.new-in-Some-sign.ensures
    ∙ with_none (terms_at 16 (Some c.in-Some-sign.negative) (map lexeme_of c.in-Some.rest.now))
    ∙ sym (expr_signed c.in-Some-sign.negative (lexeme_of c.in-Some.token.now) (map lexeme_of c.in-Some.rest.now)
    c.in-Some-sign.ensures)
    ∙ ap (λ (l : List _). expression_at (map lexeme_of l)) (sym c.in-Some.ensures.cases.0)
