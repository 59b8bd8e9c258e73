use Rattle.elide_checks.proofs.Asked.{by_names}
use Rattle.elide_checks.proofs.demands.Demands.read.Goals as goal

pub returns : goal.returns
returns c =
    by_names c.args.text.now c.args.file.now c.args.options.now c.in_ok-constants.constants.names.items
    c.in_ok-checks.checks.items
    c.in_ok-constants.ensures c.in_ok-checks.ensures
