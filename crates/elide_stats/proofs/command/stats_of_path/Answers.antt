use Rattle.std.proofs.Common.{ℕ, List, Option, ◌∙◌, subst, sym}
use Rattle.std.proofs.lemmas.Result.{err_from_is_err_and, on_ok_weaker}
use Rattle.elide_program.specs.ProgramFile.{IsFile}
use Rattle.elide_program.specs.declared.file.ProgramFile.{ProgramFile}
use Rattle.elide_setup.specs.Made.{HasRunPlan}
use Rattle.elide_program.specs.Files.{Gives, most_bytes}
use Rattle.elide_setup.specs.Refused.{no_setup, not_read}
use Rattle.elide_stats.specs.Refused.{unscheduled}
use Rattle.elide_stats.proofs.command.stats_of_path.Goals as goal

pub returns-clause-ran : goal.returns-clause-ran
returns-clause-ran g c =
    let given = g.P.Paths.content c.read_file.new.paths in
    let left = g.P.Paths.content c.stats_of_text.new.paths in
    on_ok_weaker c.stats_of_text.result
    (λ (made :
    (file : ProgramFile) × IsFile c.as_slice.result.now file
    × HasRunPlan given left file c.args.job.asked.now.settings c.args.job.plan c.args.job.asked.now.path). (
      made.0,
      given,
      record {
        text = c.in_ok-text.text.items;
        given = c.in_ok-text.ensures.given;
        read = subst (λ (text : List ℕ). IsFile text made.0) c.as_slice.ensures.value made.1;
      },
      c.read_file.ensures.kept,
      made.2,
    ))
    c.stats_of_text.ensures.ran

pub returns-clause-refused : goal.returns-clause-refused
returns-clause-refused g c content same =
    let file = c.args.job.asked.now.options.now.machine.file.now in
    let given : Gives (content file) most_bytes c.as_slice.result.now =
    subst (Gives (content file) most_bytes) (sym c.as_slice.ensures.value)
    (subst (λ (known : Option (List ℕ)). Gives known most_bytes c.in_ok-text.text.items) (same file)
    c.in_ok-text.ensures.given) in
    c.stats_of_text.ensures.refused content (λ other. c.read_file.ensures.kept other ∙ same other) given

pub returns-in_err-text-clause-refused : goal.returns-in_err-text-clause-refused
returns-in_err-text-clause-refused g c content same =
    let file = c.args.job.asked.now.options.now.machine.file.now in
    let cause = c.in_err-text.field-0.0 in
    let p = err_from_is_err_and c.from_residual.result c.from_residual.ensures.1 in
    rw p.1 (unscheduled (no_setup cause (not_read (rw (same file) at c.in_err-text.ensures.given)) p.2))
