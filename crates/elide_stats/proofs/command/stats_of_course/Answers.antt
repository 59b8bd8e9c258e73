use Rattle.tm_stats.specs.contracts.cause.AbortCausePartialEq.TheImpl as causes
use Rattle.std.proofs.Common.{ℕ, subst}
use Rattle.std.proofs.lemmas.Result.{IfErr-weaker, err_from_is_err_and}
use Rattle.elide_setup.specs.Refused.{IsUntold}
use Rattle.elide_stats.specs.Refused.{IsNoCount, IsUncounted, uncounted, untold}
use Rattle.elide_setup.proofs.Records.{kept_on_ok}
use Rattle.elide_stats.proofs.Steps.{counted_since}
use Rattle.elide_stats.proofs.command.stats_of_course.Goals as goal

pub tell_counting-requires : goal.tell_counting-requires
tell_counting-requires g c =
    let made = c.in_ok-run_course.ensures.ran in
    counted_since (causes.ghosts).eq _ c.args.counting.now c.run_course.new.self made.0 c.requires.first made.1
    c.requires.none made.3

pub returns-clause-ran : goal.returns-clause-ran
returns-clause-ran g c =
    let made = c.in_ok-run_course.ensures.ran in
    kept_on_ok c.tell_counting.result (made.0, c.run_course.new.self.machine, made.1, made.2, made.4)

pub returns-clause-refused : goal.returns-clause-refused
returns-clause-refused g c =
    let ready = c.args.ready in
    IfErr-weaker c.tell_counting.result IsUntold (IsNoCount ready.setup.now ready.course.now ready.asked.now.path)
    (λ why h. untold h) c.tell_counting.ensures

pub returns-in_err-run_course-clause-refused : goal.returns-in_err-run_course-clause-refused
returns-in_err-run_course-clause-refused g c =
    let ready = c.args.ready in
    let why = c.in_err-run_course.field-0.0 in
    let p = err_from_is_err_and c.from_residual.result c.from_residual.ensures.1 in
    rw (p.1, p.2)
    (uncounted (subst (λ (cores : ℕ). IsUncounted ready.course.now cores ready.asked.now.path why) c.requires.cores
    c.in_err-run_course.ensures.refused))
