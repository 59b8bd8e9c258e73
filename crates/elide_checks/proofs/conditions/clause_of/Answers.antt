use Rattle.elide_checks.specs.Constants.{is_among}
use Rattle.elide_checks.specs.Misread.{no_bytes}
use Rattle.elide_checks.proofs.Clauses.{of_sides}
use Rattle.elide_checks.proofs.conditions.clause_of.Goals as goal

pub returns-in-Some : goal.returns-in-Some
returns-in-Some c =
    let scope = c.args.scope.now in
    of_sides scope.file.now (is_among scope.constants.now.names.items) c.args.text.now c.in-Some.before.now
    c.in-Some.behind.now c.in-Some.comparison
    c.comparison_of.result c.in-Some.ensures c.comparison_of.ensures

pub returns-in-None : goal.returns-in-None
returns-in-None c = no_bytes c.in_default.ensures (rw c.in-None.is at c.in_ok-address.ensures)
