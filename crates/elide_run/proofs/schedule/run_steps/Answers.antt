use Rattle.std.proofs.Common.{ℕ, List, Option, subst}
use Rattle.std.proofs.lemmas.Result.{err_from_is_err_and}
use Rattle.elide_program.specs.Settings.{has_store_buffer}
use Rattle.elide_setup.proofs.Schedules.{asked_before}
use Rattle.elide_setup.specs.Setup.{IsAsked}
use Rattle.elide_run.proofs.Printed.{run_of_options}
use Rattle.elide_run.proofs.Refusing.{of_opening, of_run}
use Rattle.elide_run.proofs.schedule.run_steps.Goals as goal

pub returns-clause-made : goal.returns-clause-made
returns-clause-made g c =
    let stepped = c.in_ok-machine.ensures.made in
    let opened = c.in_ok-opened.ensures in
    let options = c.args.asked.options.now in
    record {
      run = run_of_options (g.P.Paths.content c.args.paths.now) (g.P.Paths.content c.record_path.new.paths)
          (g.P.Paths.content c.tell_steps-made.new.paths) options c.in_ok-opened.opened c.in_ok-path.path
          c.in_ok-machine.machine stepped.made c.record_path.ensures.kept opened.setup opened.course opened.listed
          opened.out c.in_ok-path.ensures.given stepped.steps stepped.ran stepped.out stepped.recorded;
      lines = stepped.lines;
      traced = stepped.traced;
      wrote = stepped.wrote.bytes;
    }

pub returns-in_err-opened-clause-refused : goal.returns-in_err-opened-clause-refused
returns-in_err-opened-clause-refused g c =
    let p = err_from_is_err_and c.from_residual-in_err-opened.result c.from_residual-in_err-opened.ensures.1 in
    rw (p.1, p.2)
    (of_opening (g.P.Paths.content c.args.paths.now) (g.P.Paths.content c.record_path.new.paths)
    (g.P.Paths.are_one c.args.paths.now) c.args.asked.options.now c.in_err-opened.field-0.0
    c.record_path.ensures.kept c.in_err-opened.ensures.none)

pub returns-in_err-machine-clause-refused : goal.returns-in_err-machine-clause-refused
returns-in_err-machine-clause-refused g c =
    let content : List ℕ → Option (List ℕ) = g.P.Paths.content c.args.paths.now in
    let after : List ℕ → Option (List ℕ) = g.P.Paths.content c.record_path.new.paths in
    let options = c.args.asked.options.now in
    let opened = c.in_ok-opened.opened in
    let p = err_from_is_err_and c.from_residual-in_err-machine.result c.from_residual-in_err-machine.ensures.1 in
    rw (p.1, p.2)
    (of_run content (g.P.Paths.are_one c.args.paths.now) options opened.setup opened.course c.in_ok-path.path
    c.in_err-machine.field-0.0
    (subst (λ (text : Option (List ℕ)). IsAsked text options.machine opened.setup)
    (c.record_path.ensures.kept options.machine.file.now) c.in_ok-opened.ensures.setup)
    (λ picks are. asked_before (has_store_buffer options.machine) content after options.schedule picks
    c.record_path.ensures.kept
    (c.in_ok-opened.ensures.course picks are))
    c.in_ok-path.ensures.given c.in_err-machine.ensures.refused)
