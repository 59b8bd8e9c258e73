use Rattle.std.proofs.lemmas.Result.{err_from_is_err_and, on_ok_weaker}
use Rattle.elide_setup.specs.Made.{HasRunPlan}
use Rattle.elide_setup.specs.Refused.{no_program, no_setup}
use Rattle.elide_stats.specs.Refused.{unscheduled}
use Rattle.elide_stats.proofs.command.stats_of_text.Goals as goal

pub returns-clause-ran : goal.returns-clause-ran
returns-clause-ran g c =
    on_ok_weaker c.stats_of_file-told.result
    (λ (run :
    HasRunPlan (g.P.Paths.content c.args.paths.now) (g.P.Paths.content c.stats_of_file-told.new.paths) c.in_ok-file.file
    c.args.job.asked.now.settings c.args.job.plan c.args.job.asked.now.path).
    (c.in_ok-file.file, c.in_ok-file.ensures.file, run))
    c.stats_of_file-told.ensures.ran

pub returns-clause-refused : goal.returns-clause-refused
returns-clause-refused g c content same given =
    c.stats_of_file-told.ensures.refused content same
    (record { text = c.args.text.now; given = given; read = c.in_ok-file.ensures.file })

pub returns-in_err-file-clause-refused : goal.returns-in_err-file-clause-refused
returns-in_err-file-clause-refused g c content same given =
    let p = err_from_is_err_and c.from_residual.result c.from_residual.ensures.1 in
    rw p.1
    (unscheduled (no_setup c.in_err-file.field-0.0 (no_program c.args.text.now given c.in_err-file.ensures.none) p.2))
