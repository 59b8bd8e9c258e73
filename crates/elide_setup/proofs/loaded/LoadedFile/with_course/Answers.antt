use Rattle.std.proofs.Common.{◌∙◌, ℕ, Bool, List, ap, refl, subst, sym}
use Rattle.std.proofs.lemmas.Result.{err_from_is_err_and}
use Rattle.elide_program.specs.Files.{Gives, most_bytes}
use Rattle.elide_program.specs.ProgramFile.{IsFile}
use Rattle.elide_program.specs.Refusals.{no_room}
use Rattle.elide_setup.proofs.Refusing.{not_scheduled}
use Rattle.elide_setup.proofs.Schedules.{planned_before}
use Rattle.elide_setup.specs.Refused.{misplanned, misread, no_parts, no_program, no_setup, not_loaded, not_read}
use Rattle.elide_setup.specs.Drawing.{IsCourseDraw}
use Rattle.elide_setup.specs.Schedules.{AreAsked, form_asked}
use Rattle.elide_setup.proofs.loaded.LoadedFile.with_course.Goals as goal

pub returns-clause-loaded : goal.returns-clause-loaded
returns-clause-loaded g c =
    let before = g.P.Paths.content c.args.paths.now in
    record {
      setup = record {
        file = c.in_ok-file.file;
        read = record {
          text = c.in_ok-text.text.items;
          given = c.in_ok-text.ensures.given;
          read = subst (λ (text : List ℕ). IsFile text c.in_ok-file.file) c.as_slice.ensures.value
              c.in_ok-file.ensures.file;
        };
        settings = c.in_ok-settings.settings;
        said = c.in_ok-settings.ensures.settings;
        made = c.in_ok-setup.ensures.setup;
      };
      named = c.in_ok-names.ensures;
      course = λ picks are. subst (λ (drains : Bool). AreAsked drains before c.args.schedule.now picks)
          c.has_store_buffer.ensures
          (c.in_ok-plan.ensures.steps before picks
          (planned_before before (g.P.Paths.content c.read_file.new.paths) c.in_ok-plan.plan picks
          c.read_file.ensures.kept (c.in_ok-setup.ensures.course picks are)));
      draw = subst (λ (drains : Bool). IsCourseDraw drains c.args.schedule.now c.in_ok-setup.course)
          c.has_store_buffer.ensures
          (c.in_ok-setup.ensures.draw c.has_store_buffer.result c.args.schedule.now c.in_ok-plan.ensures.draw);
      listed = c.in_ok-setup.ensures.listed ∙ c.in_ok-plan.ensures.listed
          ∙ ap (λ (drains : Bool). form_asked drains c.args.schedule.now) c.has_store_buffer.ensures;
      out = λ cores steps out. c.in_ok-plan.ensures.out cores steps (c.in_ok-setup.ensures.out cores steps out);
    }

pub returns-in_err-settings-clause-none : goal.returns-in_err-settings-clause-none
returns-in_err-settings-clause-none g c =
    let p = err_from_is_err_and c.from_residual.result c.from_residual.ensures.1 in
    rw (p.1, p.2) (no_setup c.in_err-settings.field-0.0 (misread c.in_err-settings.ensures.misread) refl)

pub returns-in_err-plan-clause-none : goal.returns-in_err-plan-clause-none
returns-in_err-plan-clause-none g c =
    let p = err_from_is_err_and c.from_residual-in_err-plan.result c.from_residual-in_err-plan.ensures.1 in
    rw (p.1, p.2) (misplanned c.in_err-plan.ensures.none)

pub returns-in_err-text-clause-none : goal.returns-in_err-text-clause-none
returns-in_err-text-clause-none g c =
    let p = err_from_is_err_and c.from_residual-in_err-text.result c.from_residual-in_err-text.ensures.1 in
    rw (p.1, p.2) (no_setup c.in_err-text.field-0.0 (not_read c.in_err-text.ensures.given) refl)

pub returns-in_err-file-clause-none : goal.returns-in_err-file-clause-none
returns-in_err-file-clause-none g c =
    let given = subst (Gives (g.P.Paths.content c.args.paths.now c.args.machine.now.file.now) most_bytes)
    (sym c.as_slice.ensures.value) c.in_ok-text.ensures.given in
    let p = err_from_is_err_and c.from_residual-in_err-file.result c.from_residual-in_err-file.ensures.1 in
    rw (p.1, p.2)
    (no_setup c.in_err-file.field-0.0 (no_program c.as_slice.result.now given c.in_err-file.ensures.none) refl)

pub returns-in_err-setup-clause-none : goal.returns-in_err-setup-clause-none
returns-in_err-setup-clause-none g c =
    let given = subst (Gives (g.P.Paths.content c.args.paths.now c.args.machine.now.file.now) most_bytes)
    (sym c.as_slice.ensures.value) c.in_ok-text.ensures.given in
    let p = err_from_is_err_and c.from_residual-in_err-setup.result c.from_residual-in_err-setup.ensures.1 in
    rw (p.1, p.2)
    (not_scheduled (g.P.Paths.content c.args.paths.now) (g.P.Paths.content c.read_file.new.paths) c.args.machine.now
    c.args.schedule.now c.in_ok-file.file c.in_ok-settings.settings c.in_ok-plan.plan c.in_err-setup.field-0.0
    c.read_file.ensures.kept
    (record { text = c.as_slice.result.now; given = given; read = c.in_ok-file.ensures.file })
    c.in_ok-settings.ensures.settings c.in_ok-plan.ensures.path c.in_err-setup.ensures.none)

-- of what was read, memory alone can be wanting for the names
pub returns-in_err-names-clause-none : goal.returns-in_err-names-clause-none
returns-in_err-names-clause-none g c =
    let given = subst (Gives (g.P.Paths.content c.args.paths.now c.args.machine.now.file.now) most_bytes)
    (sym c.as_slice.ensures.value) c.in_ok-text.ensures.given in
    let p = err_from_is_err_and c.from_residual-in_err-names.result c.from_residual-in_err-names.ensures.1 in
    rw (p.1, p.2)
    (no_setup _
    (not_loaded c.in_ok-file.file c.in_ok-settings.settings
    (record { text = c.as_slice.result.now; given = given; read = c.in_ok-file.ensures.file })
    c.in_ok-settings.ensures.settings (no_parts (no_room refl))) refl)
