use Rattle.std.proofs.Common.{refl}
use Rattle.std.proofs.lemmas.Result.{IfErr-weaker, IfOk-weaker, err_from_is_err_and}
use Rattle.elide_program.specs.ProgramFile.{IsFile}
use Rattle.elide_program.specs.declared.file.ProgramFile.{ProgramFile}
use Rattle.elide_setup.specs.Refused.{no_program, no_setup, not_loaded}
use Rattle.elide_setup.specs.Setup.{IsSetup}
use Rattle.elide_setup.specs.declared.machine.Setup.{Setup}
use Rattle.tm_hunt.specs.declared.searching.Search.{Search}
use Rattle.tm_hunt.specs.declared.trial.Trial.{Trial}
use Rattle.elide_hunt.specs.Printed.{IsHunted, IsTrialOf}
use Rattle.elide_hunt.specs.Refused.{IsNoSearch, IsRefused, no_demands, no_search, without_program}
use Rattle.elide_hunt.specs.declared.report.Beside.{Beside}
use Rattle.elide_hunt.proofs.command.hunt_text.Goals as goal

pub returns-clause-hunted : goal.returns-clause-hunted
returns-clause-hunted g c =
    let options = c.args.options.now in
    let orders = c.args.orders.now in
    let read = c.in_ok-file.file in
    let loaded = c.in_ok-setup.setup in
    IfOk-weaker c.hunt_setup-made.result
    (λ (made : Search × Beside). (trial : Trial) × IsTrialOf c.args.text.now read options loaded orders trial
    × IsHunted trial orders made.1 made.0)
    (λ (made : Search × Beside). (file : ProgramFile) × (setup : Setup) × (trial : Trial) × IsFile c.args.text.now file
    × IsSetup file c.args.settings.now setup × IsTrialOf c.args.text.now file options setup orders trial
    × IsHunted trial orders made.1 made.0)
    (λ made t. (read, loaded, t.0, c.in_ok-file.ensures.file, c.in_ok-setup.ensures.setup, t.1, t.2))
    (c.hunt_setup-made.ensures.hunted c.args.text.now read options c.in_ok-demands.ensures)

pub returns-in_err-file-clause-refused : goal.returns-in_err-file-clause-refused
returns-in_err-file-clause-refused g c content are_one given said ordered =
    let p = err_from_is_err_and c.from_residual.result c.from_residual.ensures.1 in
    rw (p.1, p.2)
    (without_program
    (λ any. no_setup c.in_err-file.field-0.0 (no_program c.args.text.now given c.in_err-file.ensures.none) refl))

pub returns-in_err-demands-clause-refused : goal.returns-in_err-demands-clause-refused
returns-in_err-demands-clause-refused g c content are_one given said ordered =
    let p = err_from_is_err_and c.from_residual-in_err-demands.result c.from_residual-in_err-demands.ensures.1 in
    rw (p.1, p.2)
    (no_demands c.in_ok-file.file (record { text = c.args.text.now; given = given; read = c.in_ok-file.ensures.file })
    c.in_err-demands.ensures)

pub returns-in_err-setup-clause-refused : goal.returns-in_err-setup-clause-refused
returns-in_err-setup-clause-refused g c content are_one given said ordered =
    let none = c.in_err-setup.ensures.none in
    let p = err_from_is_err_and c.from_residual-in_err-setup.result c.from_residual-in_err-setup.ensures.1 in
    rw (p.1, p.2)
    (without_program (λ any. no_setup none.0
    (not_loaded c.in_ok-file.file c.args.settings.now
    (record { text = c.args.text.now; given = given; read = c.in_ok-file.ensures.file }) said none.2)
    none.1))

pub returns-clause-refused : goal.returns-clause-refused
returns-clause-refused g c content are_one given said ordered =
    let options = c.args.options.now in
    let orders = c.args.orders.now in
    let file = c.in_ok-file.file in
    let setup = c.in_ok-setup.setup in
    IfErr-weaker c.hunt_setup-made.result (IsNoSearch c.args.text.now file options setup orders)
    (IsRefused content are_one options)
    (λ why none. no_search setup orders
    (record {
      file = file;
      read = record { text = c.args.text.now; given = given; read = c.in_ok-file.ensures.file };
      settings = c.args.settings.now;
      said = said;
      made = c.in_ok-setup.ensures.setup;
    })
    ordered none)
    (c.hunt_setup-made.ensures.refused c.args.text.now file options c.in_ok-demands.ensures)
