use Rattle.std.proofs.Common.{refl}
use Rattle.std.proofs.lemmas.Result.{err_from_is_err_and}
use Rattle.elide_program.specs.Refusals.{no_room}
use Rattle.elide_setup.specs.Refused.{is_none, is_not_loaded, no_parts}
use Rattle.elide_setup.proofs.loaded.LoadedFile.of_text.Goals as goal

pub returns-clause-loaded : goal.returns-clause-loaded
returns-clause-loaded c = record {
  file = c.in_ok-file.file;
  read = c.in_ok-file.ensures.file;
  form = c.form.ensures;
  setup = c.in_ok-setup.ensures.setup;
  named = c.in_ok-names.ensures;
}

pub returns-in_err-file-clause-none : goal.returns-in_err-file-clause-none
returns-in_err-file-clause-none c =
    let p = err_from_is_err_and c.from_residual.result c.from_residual.ensures.1 in
    rw (p.1, p.2) (is_none c.in_err-file.field-0.0 c.in_err-file.ensures.none refl)

pub returns-in_err-setup-clause-none : goal.returns-in_err-setup-clause-none
returns-in_err-setup-clause-none c =
    let none = c.in_err-setup.ensures.none in
    let p = err_from_is_err_and c.from_residual-in_err-setup.result c.from_residual-in_err-setup.ensures.1 in
    rw (p.1, p.2) (is_not_loaded c.in_ok-file.file none.0 c.in_ok-file.ensures.file none.2 none.1)

-- of what was read, memory alone can be wanting for the names
pub returns-in_err-names-clause-none : goal.returns-in_err-names-clause-none
returns-in_err-names-clause-none c =
    let p = err_from_is_err_and c.from_residual-in_err-names.result c.from_residual-in_err-names.ensures.1 in
    rw (p.1, p.2) (is_not_loaded c.in_ok-file.file _ c.in_ok-file.ensures.file (no_parts (no_room refl)) refl)
