use Rattle.std.proofs.Common.{sym, ◌∙◌, ap}
use Rattle.std.specs.Prelude.{option_map}
use Rattle.ia_source.specs.Contents.{Reserve, expression_content}
use Rattle.ia_source.proofs.statement.read_reserve.Goals as goal

pub returns-in-Some-clause-item : goal.returns-in-Some-clause-item
returns-in-Some-clause-item c r h =
    ap (option_map Reserve)
    (sym (ap (option_map (expression_content r.naming)) c.in-Some.is)
    ∙ c.in_ok-expression.ensures.expression r.naming h)

pub returns-in-None-clause-item : goal.returns-in-None-clause-item
returns-in-None-clause-item c r h =
    ap (option_map Reserve)
    (sym (ap (option_map (expression_content r.naming)) c.in-None.is)
    ∙ c.in_ok-expression.ensures.expression r.naming h)
