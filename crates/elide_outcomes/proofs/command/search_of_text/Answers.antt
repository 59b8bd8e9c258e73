use Rattle.elide_setup.specs.declared.fault.Refusal.{Refusal}
use Rattle.std.proofs.lemmas.Result.{err_from_is_err_and}
use Rattle.elide_outcomes.specs.Refused.{IsNotFound, IsNotFoundIn, no_program, not_in}
use Rattle.elide_outcomes.specs.declared.found.Found.{Found}
use Rattle.elide_outcomes.proofs.Refusing.{either_weaker}
use Rattle.elide_outcomes.proofs.Trials.{IsFoundOf, IsFoundOfText}
use Rattle.elide_outcomes.proofs.command.search_of_text.Goals as goal

pub returns : goal.returns
returns g c =
    let settings = c.args.settings.now in
    let asked = c.args.asked.now in
    let text = c.args.text.now in
    let file = c.in_ok-file.file in
    either_weaker c.search_of_file-found.result
    (IsFoundOf text file settings asked)
    (IsFoundOfText text settings asked)
    (IsNotFoundIn text file settings asked.options.now asked.under asked.stops.now)
    (IsNotFound text settings asked.options.now asked.under asked.stops.now)
    (λ (found : Found) t. (file, c.in_ok-file.ensures.file, t.0, t.1, t.2, t.3, t.4))
    (λ (why : Refusal) none. not_in file c.in_ok-file.ensures.file none)
    c.search_of_file-found.ensures

pub returns-in_err-file : goal.returns-in_err-file
returns-in_err-file g c =
    let p = err_from_is_err_and c.from_residual.result c.from_residual.ensures.1 in
    rw p.1 (no_program c.in_err-file.field-0.0 c.in_err-file.ensures.none p.2)
