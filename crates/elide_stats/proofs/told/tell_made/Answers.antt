use Rattle.std.proofs.Common.{◌∙◌, inr}
use Rattle.std.proofs.lemmas.Result.{err_from_is_err_and}
use Rattle.tm_stats.specs.contracts.cause.AbortCausePartialEq.TheImpl as causes
use Rattle.elide_stats.proofs.Steps.{counted_since}
use Rattle.elide_stats.proofs.told.tell_made.Goals as goal

pub tell_counting-requires : goal.tell_counting-requires
tell_counting-requires g c =
    let made = c.in_ok-run_history.ensures.ran in
    counted_since (causes.ghosts).eq _ c.args.counting.now c.run_history.new.self made.0 c.requires.first made.1
    c.requires.none made.2

pub run_history-requires : goal.run_history-requires
run_history-requires g c = c.requires.first.is_run.same.cores ∙ c.requires.first.cores

pub returns-in_err-run_history : goal.returns-in_err-run_history
returns-in_err-run_history g c =
    let p = err_from_is_err_and c.from_residual.result c.from_residual.ensures.1 in
    rw (p.1, p.2) (inr c.in_err-run_history.ensures.refused)
