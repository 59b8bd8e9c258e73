use Rattle.std.proofs.Common.{ℕ, List, Option, refl, subst}
use Rattle.std.proofs.lemmas.Result.{IfErr-weaker, err_from_is_err_and}
use Rattle.std.specs.Borrow.{Bor}
use Rattle.std.proofs.lemmas.Result.{IfOk-weaker}
use Rattle.elide_program.specs.ProgramFile.{IsFile}
use Rattle.elide_program.specs.declared.file.ProgramFile.{ProgramFile}
use Rattle.elide_setup.specs.Recorded.{IsRecorded}
use Rattle.tm_schedule.specs.Schedule.{schedule_text}
use Rattle.elide_setup.specs.Setup.{IsSetup}
use Rattle.tm_hist.specs.Board.{ShownBoard as Board}
use Rattle.elide_setup.specs.declared.machine.Setup.{Setup}
use Rattle.elide_threads.specs.Printed.{IsTold, IsWorked}
use Rattle.tm_model.specs.Runs.{picks_of}
use Rattle.elide_setup.specs.Refused.{no_program, no_setup, not_loaded}
use Rattle.elide_threads.specs.Refused.{IsNoWork, IsRefused, no_work, without_program}
use Rattle.elide_threads.proofs.workers.threads_of_text.Goals as goal

pub returns-clause-told : goal.returns-clause-told
returns-clause-told g c =
    let made = c.in_ok-setup.setup in
    let left = g.P.Paths.content c.run_and_tell-end.new.paths in
    let options = c.args.asked.now.options.now in
    let work = c.args.asked.now.work in
    IfOk-weaker c.run_and_tell-end.result
    (λ (given : g.row.O.Denot). (board : Board) × IsWorked made work.budget work.plan board
    × IsTold options made board (g.O.Out.device c.args.out).contents (g.O.Out.device given).contents
    × IsRecorded left work.path (schedule_text (picks_of board.history)))
    (λ (given : g.row.O.Denot). (file : ProgramFile) × (setup : Setup) × (board : Board) × IsFile c.args.text.now file
    × IsSetup file c.args.asked.now.settings setup × IsWorked setup work.budget work.plan board
    × IsTold options setup board (g.O.Out.device c.args.out).contents (g.O.Out.device given).contents
    × IsRecorded left work.path (schedule_text (picks_of board.history)))
    (λ given t. (c.in_ok-file.file, made, t.0, c.in_ok-file.ensures.file, c.in_ok-setup.ensures.setup, t.1, t.2, t.3))
    c.run_and_tell-end.ensures.told

pub returns-in_err-file-clause-refused : goal.returns-in_err-file-clause-refused
returns-in_err-file-clause-refused g c content are_one given said budget plan path =
    let p = err_from_is_err_and c.from_residual.result c.from_residual.ensures.1 in
    rw (p.1, p.2)
    (without_program
    (λ any. no_setup c.in_err-file.field-0.0 (no_program c.args.text.now given c.in_err-file.ensures.none) refl))

pub returns-in_err-setup-clause-refused : goal.returns-in_err-setup-clause-refused
returns-in_err-setup-clause-refused g c content are_one given said budget plan path =
    let none = c.in_err-setup.ensures.none in
    let p = err_from_is_err_and c.from_residual-in_err-setup.result c.from_residual-in_err-setup.ensures.1 in
    rw (p.1, p.2) (without_program (λ any. no_setup none.0 (not_loaded c.in_ok-file.file c.args.asked.now.settings
    (record { text = c.args.text.now; given = given; read = c.in_ok-file.ensures.file }) said none.2) none.1))

pub returns-clause-refused : goal.returns-clause-refused
returns-clause-refused g c content are_one given said budget plan path =
    let setup = c.in_ok-setup.setup in
    let work = c.args.asked.now.work in
    IfErr-weaker c.run_and_tell-end.result (IsNoWork setup work.budget work.plan work.path)
    (IsRefused content are_one c.args.asked.now.options.now)
    (λ why h. no_work setup work.budget work.plan
    (record {
      file = c.in_ok-file.file;
      read = record { text = c.args.text.now; given = given; read = c.in_ok-file.ensures.file };
      settings = c.args.asked.now.settings;
      said = said;
      made = c.in_ok-setup.ensures.setup;
    })
    budget plan
    (subst (λ (recorded : Option (Bor (List ℕ))). IsNoWork setup work.budget work.plan recorded why) path h))
    (c.run_and_tell-end.ensures.refused)
