use Rattle.std.proofs.Common.{ℕ, List, Option, refl, subst, sym}
use Rattle.std.proofs.lemmas.Result.{IfOk-weaker}
use Rattle.std.specs.Borrow.{Bor}
use Rattle.elide_program.specs.Files.{Gives, most_bytes}
use Rattle.elide_program.specs.ProgramFile.{IsFile}
use Rattle.elide_program.specs.declared.file.ProgramFile.{ProgramFile}
use Rattle.elide_setup.specs.Recorded.{IsRecorded}
use Rattle.tm_schedule.specs.Schedule.{schedule_text}
use Rattle.elide_setup.specs.Setup.{IsSetup}
use Rattle.tm_hist.specs.Board.{ShownBoard as Board}
use Rattle.elide_setup.specs.declared.machine.Setup.{Setup}
use Rattle.elide_threads.specs.Printed.{IsPrinted, IsTold, IsWorked}
use Rattle.tm_model.specs.Runs.{picks_of}
use Rattle.std.proofs.lemmas.Result.{err_from_is_err_and}
use Rattle.elide_setup.specs.Refused.{misread, no_setup, not_read}
use Rattle.elide_threads.specs.Refused.{without_program}
use Rattle.elide_threads.specs.Refused.{misworked}
use Rattle.elide_threads.proofs.workers.threads.Goals as goal

pub returns-clause-printed : goal.returns-clause-printed
returns-clause-printed g c =
    let content : List ℕ → Option (List ℕ) = g.P.Paths.content c.args.paths.now in
    let left : List ℕ → Option (List ℕ) = g.P.Paths.content c.threads_of_text-end.new.paths in
    let options = c.args.options.now in
    let settings = c.in_ok-settings.settings in
    let budget : ℕ = c.in_ok-work.work.budget in
    let plan = c.in_ok-work.work.plan in
    let bytes : List ℕ = c.in_ok-text.text.items in
    let given : Gives (content options.machine.file.now) most_bytes bytes =
    subst (λ (known : Option (List ℕ)). Gives known most_bytes bytes) (c.read-2.ensures.kept options.machine.file.now)
    c.in_ok-text.ensures.given in
    IfOk-weaker c.threads_of_text-end.result
    (λ (device : g.row.O.Denot). (file : ProgramFile) × (setup : Setup) × (board : Board)
    × IsFile c.as_slice.result.now file × IsSetup file settings setup
    × IsWorked setup budget plan board
    × IsTold options setup board (g.O.Out.device c.args.out).contents (g.O.Out.device device).contents
    × IsRecorded left c.in_ok-work.work.path (schedule_text (picks_of board.history)))
    (λ (device : g.row.O.Denot).
    IsPrinted content left options (g.O.Out.device c.args.out).contents (g.O.Out.device device).contents)
    (λ device t. record {
      setup = t.1;
      asked = record {
        file = t.0;
        read = record {
          text = bytes;
          given = given;
          read = subst (λ (text : List ℕ). IsFile text t.0) c.as_slice.ensures.value t.3;
        };
        settings = settings;
        said = c.in_ok-settings.ensures.settings;
        made = t.4;
      };
      budget = budget;
      said = c.in_ok-work.ensures.budget;
      plan = plan;
      planned = c.in_ok-work.ensures.plan;
      board = t.2;
      worked = t.5;
      recorded = subst (λ (path : Option (Bor (List ℕ))). IsRecorded left path (schedule_text (picks_of t.2.history)))
          c.in_ok-work.ensures.path t.7;
      told = t.6;
    })
    c.threads_of_text-end.ensures.told

pub returns-in_err-settings-clause-refused : goal.returns-in_err-settings-clause-refused
returns-in_err-settings-clause-refused g c =
    let p = err_from_is_err_and c.from_residual.result c.from_residual.ensures.1 in
    rw (p.1, p.2)
    (without_program (λ any. no_setup c.in_err-settings.field-0.0 (misread c.in_err-settings.ensures.misread) refl))

pub returns-in_err-text-clause-refused : goal.returns-in_err-text-clause-refused
returns-in_err-text-clause-refused g c =
    let p = err_from_is_err_and c.from_residual-in_err-text.result c.from_residual-in_err-text.ensures.1 in
    rw (p.1, p.2) (without_program (λ any. no_setup c.in_err-text.field-0.0
    (not_read (rw (c.read-2.ensures.kept c.args.options.now.machine.file.now) at c.in_err-text.ensures.given)) refl))

pub returns-clause-refused : goal.returns-clause-refused
returns-clause-refused g c =
    let content : List ℕ → Option (List ℕ) = g.P.Paths.content c.args.paths.now in
    let file = c.args.options.now.machine.file.now in
    let given : Gives (content file) most_bytes c.as_slice.result.now =
    subst (Gives (content file) most_bytes) (sym c.as_slice.ensures.value)
    (subst (λ (known : Option (List ℕ)). Gives known most_bytes c.in_ok-text.text.items) (c.read-2.ensures.kept file)
    c.in_ok-text.ensures.given) in
    c.threads_of_text-end.ensures.refused content (g.P.Paths.are_one c.args.paths.now) given
    c.in_ok-settings.ensures.settings
    c.in_ok-work.ensures.budget c.in_ok-work.ensures.plan c.in_ok-work.ensures.path

pub returns-in_err-work-clause-refused : goal.returns-in_err-work-clause-refused
returns-in_err-work-clause-refused g c =
    let p = err_from_is_err_and c.from_residual-in_err-work.result c.from_residual-in_err-work.ensures.1 in
    rw (p.1, p.2) (misworked c.in_err-work.ensures.refused)
