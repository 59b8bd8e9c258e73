use Rattle.std.proofs.Common.{refl}
use Rattle.std.proofs.lemmas.Result.{IfErr-weaker, err_from_is_err_and}
use Rattle.elide_setup.specs.Refused.{IsNotPaged}
use Rattle.elide_setup.specs.declared.plan.Course.{Course}
use Rattle.elide_setup.specs.declared.plan.Course.TheVariants.{Listed}
use Rattle.elide_page.specs.Refused.{IsNoPage}
use Rattle.elide_page.proofs.Refusing.{no_program_of, not_paged_of}
use Rattle.elide_page.proofs.picks.page_of_picks.Goals as goal

pub returns-in_err-settings : goal.returns-in_err-settings
returns-in_err-settings g c =
    let p = err_from_is_err_and c.from_residual.result c.from_residual.ensures.1 in
    rw (p.1, p.2) (IsNotPaged.misread c.in_err-settings.field-0.0 c.in_err-settings.ensures.misread refl)

pub returns-in_err-file : goal.returns-in_err-file
returns-in_err-file g c =
    let p = err_from_is_err_and c.from_residual-in_err-file.result c.from_residual-in_err-file.ensures.1 in
    rw (p.1, p.2)
    (no_program_of c.args.searched.text.now c.args.searched.machine.now c.args.searched.picks.now
    c.in_ok-settings.settings c.in_err-file.field-0.0 c.in_ok-settings.ensures.settings c.in_err-file.ensures.none)

pub returns : goal.returns
returns g c =
    let text = c.args.searched.text.now in
    let options = c.args.searched.machine.now in
    let picks = c.args.searched.picks.now in
    let loaded = c.in_ok-file.ensures.loaded in
    let asked : Course = Listed c.in_ok-from_slice.field-0 in
    IfErr-weaker c.page_found-written.result (IsNoPage c.in_ok-file.file.setup asked) (IsNotPaged text options picks)
    (λ why none.
    not_paged_of text options picks c.in_ok-settings.settings loaded.file c.in_ok-file.file.setup asked why
    c.in_ok-settings.ensures.settings loaded.read loaded.setup
    c.in_ok-from_slice.ensures.items none)
    c.page_found-written.ensures
