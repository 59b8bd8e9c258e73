use Rattle.std.proofs.Common.{refl, subst, sym}
use Rattle.std.proofs.lemmas.Result.{err_from_is_err_and}
use Rattle.elide_places.specs.FileSymbols.{AreSymbolsOf}
use Rattle.elide_program.specs.Files.{Gives, most_bytes}
use Rattle.elide_setup.proofs.Refusing.{no_program_given}
use Rattle.elide_setup.specs.Refused.{misread, no_setup, not_read}
use Rattle.elide_setup.specs.Setup.{IsAsked}
use Rattle.elide_session.specs.Refused.{boardless, without_program}
use Rattle.elide_session.proofs.opening.opened.Goals as goal

pub returns-clause-opened : goal.returns-clause-opened
returns-clause-opened g c =
    let given = subst (Gives (g.P.Paths.content c.args.paths.now c.args.machine.now.file.now) most_bytes)
    (sym c.as_slice.ensures.value) c.in_ok-text.ensures.given in
    let loaded = c.in_ok-loaded.ensures.loaded in
    record {
      setup = c.in_ok-loaded.loaded.setup;
      asked = record {
        file = loaded.file;
        read = record { text = c.as_slice.result.now; given = given; read = loaded.read };
        settings = c.in_ok-settings.settings;
        said = c.in_ok-settings.ensures.settings;
        made = loaded.setup;
      };
      new = c.in_ok-board.ensures.made;
      named = subst (λ symbols. AreSymbolsOf loaded.file symbols.items) (sym c.names_of.ensures)
          (loaded.named c.wants_of-wants.ensures);
    }

pub returns-in_err-settings-clause-none : goal.returns-in_err-settings-clause-none
returns-in_err-settings-clause-none g c =
    let p = err_from_is_err_and c.from_residual.result c.from_residual.ensures.1 in
    rw (p.1, p.2)
    (without_program (λ any. no_setup c.in_err-settings.field-0.0 (misread c.in_err-settings.ensures.misread) refl))

pub returns-in_err-text-clause-none : goal.returns-in_err-text-clause-none
returns-in_err-text-clause-none g c =
    let p = err_from_is_err_and c.from_residual-in_err-text.result c.from_residual-in_err-text.ensures.1 in
    rw (p.1, p.2)
    (without_program (λ any. no_setup c.in_err-text.field-0.0 (not_read c.in_err-text.ensures.given) refl))

pub returns-in_err-loaded-clause-none : goal.returns-in_err-loaded-clause-none
returns-in_err-loaded-clause-none g c =
    let content = g.P.Paths.content c.args.paths.now in
    let given = subst (Gives (content c.args.machine.now.file.now) most_bytes)
    (sym c.as_slice.ensures.value) c.in_ok-text.ensures.given in
    let p = err_from_is_err_and c.from_residual-in_err-loaded.result c.from_residual-in_err-loaded.ensures.1 in
    rw (p.1, p.2)
    (without_program
    (λ any. no_program_given content c.args.machine.now any c.as_slice.result.now c.in_ok-settings.settings
    c.in_err-loaded.field-0.0 given c.in_ok-settings.ensures.settings c.in_err-loaded.ensures.none))

pub returns-in_err-board-clause-none : goal.returns-in_err-board-clause-none
returns-in_err-board-clause-none g c =
    let given = subst (Gives (g.P.Paths.content c.args.paths.now c.args.machine.now.file.now) most_bytes)
    (sym c.as_slice.ensures.value) c.in_ok-text.ensures.given in
    let loaded = c.in_ok-loaded.ensures.loaded in
    let asked :
    IsAsked (g.P.Paths.content c.args.paths.now c.args.machine.now.file.now) c.args.machine.now
    c.in_ok-loaded.loaded.setup =
    record {
      file = loaded.file;
      read = record { text = c.as_slice.result.now; given = given; read = loaded.read };
      settings = c.in_ok-settings.settings;
      said = c.in_ok-settings.ensures.settings;
      made = loaded.setup;
    } in
    let p = err_from_is_err_and c.from_residual-in_err-board.result c.from_residual-in_err-board.ensures.1 in
    rw (p.1, p.2) (boardless c.in_ok-loaded.loaded.setup asked c.in_err-board.ensures.none)
