use Rattle.std.proofs.lemmas.Result.{err_from_is_err_and}
use Rattle.elide_checks.specs.Options.{option_name}
use Rattle.elide_checks.specs.Constants.{is_among}
use Rattle.elide_checks.proofs.Clauses.{among_texts}
use Rattle.elide_checks.proofs.Zips.{one_added}
use Rattle.elide_checks.proofs.adding.add_checks.Goals as goal

pub loop-text-preserved : goal.loop-text-preserved
loop-text-preserved g c =
    let scope = c.args.scope.now in
    one_added (g.C.ConditionCheck.says scope.file.now (is_among scope.constants.now.names.items) c.args.option)
    c.args.texts.now c.loop-text.text-index c.args.checks.now.items _ _
    c.in_ok-check.check c.loop-text-test.true c.loop-text.invariant c.in_ok-add.ensures
    c.in_ok-check.ensures

pub returns-in_err-check : goal.returns-in_err-check
returns-in_err-check g c =
    let scope = c.args.scope.now in
    let p = err_from_is_err_and c.from_residual.result c.from_residual.ensures.1 in
    rw (p.1, p.2)
    (among_texts (g.C.ConditionCheck.says_none scope.file.now (is_among scope.constants.now.names.items))
    c.args.texts.now c.loop-text.text-index (option_name c.args.option) _
    c.loop-text-test.true c.in_err-check.ensures)
