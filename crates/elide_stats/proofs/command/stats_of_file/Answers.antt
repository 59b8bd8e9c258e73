use Rattle.std.proofs.Common.{ℕ, List, Option, subst}
use Rattle.std.specs.Borrow.{Bor}
use Rattle.std.proofs.lemmas.Result.{IfErr-weaker, err_from_is_err_and, on_ok_weaker}
use Rattle.elide_setup.proofs.Made.{of_course}
use Rattle.elide_setup.proofs.Refusing.{not_scheduled}
use Rattle.elide_setup.proofs.Schedules.{planned_before}
use Rattle.elide_stats.specs.Refused.{IsNoCount, IsNotCounted, no_count, unscheduled}
use Rattle.elide_stats.proofs.command.stats_of_file.Goals as goal

pub returns-clause-ran : goal.returns-clause-ran
returns-clause-ran g c =
    let asked = c.args.job.asked.now in
    on_ok_weaker c.stats_of_setup.result
    (of_course (g.P.Paths.content c.args.paths.now) (g.P.Paths.content c.stats_of_setup.new.paths) c.args.file.now
    asked.settings c.args.job.plan asked.path
    c.in_ok-setup.setup c.in_ok-setup.course c.in_ok-setup.ensures.setup c.in_ok-setup.ensures.course
    c.in_ok-setup.ensures.listed)
    c.stats_of_setup.ensures.ran

pub returns-clause-refused : goal.returns-clause-refused
returns-clause-refused g c content same read =
    let asked = c.args.job.asked.now in
    let options = asked.options.now in
    let setup = c.in_ok-setup.setup in
    let course = c.in_ok-setup.course in
    IfErr-weaker c.stats_of_setup.result (IsNoCount setup course asked.path) (IsNotCounted content options)
    (λ why h. no_count setup course
    (record {
      file = c.args.file.now;
      read = read;
      settings = asked.settings;
      said = c.requires.settings;
      made = c.in_ok-setup.ensures.setup;
    })
    (λ picks are. c.requires.planned content picks
    (planned_before content (g.P.Paths.content c.args.paths.now) c.args.job.plan picks same
    (c.in_ok-setup.ensures.course picks are)))
    (subst (λ (path : Option (Bor (List ℕ))). IsNoCount setup course path why) c.requires.recorded h))
    c.stats_of_setup.ensures.refused

pub returns-in_err-setup-clause-refused : goal.returns-in_err-setup-clause-refused
returns-in_err-setup-clause-refused g c content same read =
    let asked = c.args.job.asked.now in
    let options = asked.options.now in
    let p = err_from_is_err_and c.from_residual.result c.from_residual.ensures.1 in
    rw (p.1, p.2)
    (unscheduled (not_scheduled content (g.P.Paths.content c.args.paths.now) options.machine options.schedule
    c.args.file.now asked.settings c.args.job.plan c.in_err-setup.field-0.0
    same read c.requires.settings c.requires.named c.in_err-setup.ensures.none))
