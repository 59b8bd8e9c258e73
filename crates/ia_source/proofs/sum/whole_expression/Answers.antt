use Rattle.std.proofs.Common.{◌-◌, List, [], Some, false, length, map, ap, sym, ◌∙◌}
use Rattle.ia_lex.specs.Tokens.{lexeme_of}
use Rattle.ia_lex.specs.Terms.{term_content, terms_at, with_terms, expression_at}
use Rattle.ia_source.specs.Operands.{whole}
use Rattle.ia_source.proofs.Sums.{sum_plain, sum_signed}
use Rattle.ia_source.proofs.sum.whole_expression.Goals as goal

pub returns-in-None-sign : goal.returns-in-None-sign
returns-in-None-sign c =
    c.behind_sign.ensures
    ∙ ap (λ l. whole (with_terms (map term_content l)
    (terms_at (16 - length l) (Some false) (map lexeme_of c.args.tokens.now)))) c.clear.ensures
    ∙ ap (λ (l : List _). whole (with_terms [] (terms_at 16 (Some false) (map lexeme_of l)))) c.in-Some.ensures.cases.0
    ∙ sum_plain (lexeme_of c.in-Some.token.now) (map lexeme_of c.in-Some.rest.now) c.in-None-sign.ensures
    ∙ ap (λ (l : List _). whole (expression_at (map lexeme_of l))) (sym c.in-Some.ensures.cases.0)

pub returns-in-Some-sign : goal.returns-in-Some-sign
returns-in-Some-sign c =
    c.behind_sign-in-Some-sign.ensures
    ∙ ap (λ l. whole (with_terms (map term_content l)
    (terms_at (16 - length l) (Some c.in-Some-sign.negative) (map lexeme_of c.in-Some.rest.now)))) c.clear.ensures
    ∙ sum_signed c.in-Some-sign.negative (lexeme_of c.in-Some.token.now) (map lexeme_of c.in-Some.rest.now)
    c.in-Some-sign.ensures
    ∙ ap (λ (l : List _). whole (expression_at (map lexeme_of l))) (sym c.in-Some.ensures.cases.0)
