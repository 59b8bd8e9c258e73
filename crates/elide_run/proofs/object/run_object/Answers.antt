use Rattle.std.proofs.Common.{◌∙◌, ◌++◌, ℕ, List, Option, append_assoc, subst}
use Rattle.std.proofs.lemmas.Result.{IfErr-weaker, IfOk-weaker, err_from_is_err_and}
use Rattle.std.specs.Io.KnownBytes.{Appends}
use Rattle.elide_program.specs.Settings.{has_store_buffer}
use Rattle.text_out.proofs.Writing.{appends_then}
use Rattle.elide_json.proofs.RunTexts.{run_text}
use Rattle.elide_json.specs.Outcomes.{run_back, run_front, run_rows}
use Rattle.elide_setup.proofs.Schedules.{asked_before}
use Rattle.elide_device.specs.Gathering.{told}
use Rattle.elide_setup.specs.Setup.{IsAsked}
use Rattle.elide_device.specs.declared.gathered.Gathered.{Gathered}
use Rattle.elide_why.proofs.Passing.{kept_first}
use Rattle.elide_json.specs.Refused.{IsUnsent}
use Rattle.elide_why.proofs.Refusing.{scheduled_before}
use Rattle.elide_run.proofs.Printed.{run_of_options}
use Rattle.elide_run.proofs.Refusing.{of_object, of_run}
use Rattle.elide_run.specs.Refused.{IsRefused, unscheduled}
use Rattle.elide_run.specs.Object.{IsEnd, IsObjectPrinted, end_members}
use Rattle.elide_run.specs.declared.halting.Ending.{Ending}
use Rattle.elide_run.proofs.object.run_object.Goals as goal

pub returns-clause-printed : goal.returns-clause-printed
returns-clause-printed g c =
    let content : List ℕ → Option (List ℕ) = g.P.Paths.content c.args.paths.now in
    let left : List ℕ → Option (List ℕ) = g.P.Paths.content c.make_steps-made.new.paths in
    let held : Gathered g.row.O.Denot → Option (List ℕ) =
    λ m. told (g.O.Out.device m.out).contents (g.O.Out.device m.before.value).contents m.failures m.row.items in
    let options = c.args.options.now in
    let setup = c.in_ok-opened.opened.setup in
    let machine = c.in_ok-machine.machine in
    let made = c.in_ok-machine.ensures.made in
    let opened = c.in_ok-opened.ensures in
    let first : Option (List ℕ) = (g.O.Out.device c.args.out).contents in
    let begun : Option (List ℕ) = held c.new-page.result in
    let between : Option (List ℕ) = held c.in_ok-machine.page in
    let above : List ℕ = run_front options.traces ++ run_rows options.traces made.made in
    IfOk-weaker c.tell_end-told.result
    (λ (r : Ending × g.row.O.Denot). IsEnd options setup machine r.0 between (g.O.Out.device r.1).contents)
    (λ (r : Ending × g.row.O.Denot). IsObjectPrinted content left options r.0 first (g.O.Out.device r.1).contents)
    (λ r end.
    let last : Option (List ℕ) = (g.O.Out.device r.1).contents in
    let others = end_members options setup machine r.0 in
    let back = run_back options.traces others in
    record {
      setup = setup;
      machine = machine;
      run = run_of_options content (g.P.Paths.content c.record_path.new.paths) left options c.in_ok-opened.opened
          c.in_ok-path.path machine made.made c.record_path.ensures.kept opened.setup opened.course opened.listed
          opened.out c.in_ok-path.ensures.given made.steps made.ran made.out made.recorded;
      came_to = end.came_to;
      wrote = subst (λ (text : List ℕ). Appends first last text)
          (append_assoc (run_front options.traces) (run_rows options.traces made.made) back
          ∙ run_text options.traces made.made _ _ _)
          (kept_first first begun last (above ++ back) c.new-page.ensures.kept
          (appends_then begun between last above back made.wrote.bytes end.wrote));
    })
    c.tell_end-told.ensures.told

pub returns-in_err-opened-clause-refused : goal.returns-in_err-opened-clause-refused
returns-in_err-opened-clause-refused g c =
    let p = err_from_is_err_and c.from_residual-in_err-opened.result c.from_residual-in_err-opened.ensures.1 in
    rw (p.1, p.2)
    (unscheduled (scheduled_before (g.P.Paths.content c.args.paths.now) (g.P.Paths.content c.record_path.new.paths)
    c.args.options.now.machine c.args.options.now.schedule c.in_err-opened.field-0.0
    c.record_path.ensures.kept c.in_err-opened.ensures.none))

pub returns-in_err-machine-clause-refused : goal.returns-in_err-machine-clause-refused
returns-in_err-machine-clause-refused g c =
    let content : List ℕ → Option (List ℕ) = g.P.Paths.content c.args.paths.now in
    let after : List ℕ → Option (List ℕ) = g.P.Paths.content c.record_path.new.paths in
    let options = c.args.options.now in
    let setup = c.in_ok-opened.opened.setup in
    let p = err_from_is_err_and c.from_residual-in_err-machine.result c.from_residual-in_err-machine.ensures.1 in
    rw (p.1, p.2)
    (of_run content (g.P.Paths.are_one c.args.paths.now) options setup c.in_ok-opened.opened.course c.in_ok-path.path
    c.in_err-machine.field-0.0
    (subst (λ (text : Option (List ℕ)). IsAsked text options.machine setup)
    (c.record_path.ensures.kept options.machine.file.now) c.in_ok-opened.ensures.setup)
    (λ picks are. asked_before (has_store_buffer options.machine) content after options.schedule picks
    c.record_path.ensures.kept
    (c.in_ok-opened.ensures.course picks are))
    c.in_ok-path.ensures.given c.in_err-machine.ensures.refused)

pub returns-clause-refused : goal.returns-clause-refused
returns-clause-refused g c =
    let content : List ℕ → Option (List ℕ) = g.P.Paths.content c.args.paths.now in
    let options = c.args.options.now in
    let setup = c.in_ok-opened.opened.setup in
    let machine = c.in_ok-machine.machine in
    let made = c.in_ok-machine.ensures.made in
    let is : IsAsked (content options.machine.file.now) options.machine setup =
    subst (λ (text : Option (List ℕ)). IsAsked text options.machine setup)
    (c.record_path.ensures.kept options.machine.file.now) c.in_ok-opened.ensures.setup in
    IfErr-weaker c.tell_end-told.result (IsUnsent machine.memory setup.parts)
    (IsRefused content (g.P.Paths.are_one c.args.paths.now) options)
    (λ why h. of_object content (g.P.Paths.are_one c.args.paths.now) options setup machine made.made why is made.ran h)
    c.tell_end-told.ensures.unsent
