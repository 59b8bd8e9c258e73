use Rattle.elide_outcomes.proofs.Printed.{printed_on}
use Rattle.elide_outcomes.proofs.command.outcomes.Goals as goal

pub returns : goal.returns
returns g c =
    printed_on (g.P.Paths.content c.args.paths.now) c.args.options.now c.in_ok-answer.answer
    (g.O.Out.device c.args.out).contents _ _ _
    c.new-page.ensures.kept c.in_ok-answer.ensures.ok c.in_ok-out.ensures.kept
