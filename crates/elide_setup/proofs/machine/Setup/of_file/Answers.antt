use Rattle.std.proofs.Common.{◌≡◌}
use Rattle.std.proofs.lemmas.Result.{IfErr-weaker, err_from_is_err_and}
use Rattle.elide_program.specs.ProgramFile.{TellsLoad}
use Rattle.elide_program.specs.declared.fault.ProgramRefusal.{ProgramRefusal}
use Rattle.elide_setup.proofs.Refusing.{not_loaded_with}
use Rattle.elide_setup.specs.Faults.{refusal_of}
use Rattle.elide_setup.specs.Refused.{IsNotLoaded, no_parts, no_starts}
use Rattle.elide_setup.specs.declared.fault.Refusal.{Refusal}
use Rattle.elide_setup.proofs.machine.Setup.of_file.Goals as goal

pub returns-in_err-starts-clause-none : goal.returns-in_err-starts-clause-none
returns-in_err-starts-clause-none c =
    let p = err_from_is_err_and c.from_residual.result c.from_residual.ensures.1 in
    rw p.1 (c.in_err-starts.field-0.0, p.2, no_starts c.in_err-starts.ensures.none)

pub returns-in_err-parts-clause-none : goal.returns-in_err-parts-clause-none
returns-in_err-parts-clause-none c =
    let p = err_from_is_err_and c.from_residual-in_err-parts.result c.from_residual-in_err-parts.ensures.1 in
    rw p.1 (c.in_err-parts.field-0.0, p.2, no_parts c.in_err-parts.ensures.none)

pub returns-clause-none : goal.returns-clause-none
returns-clause-none c =
    let file = c.args.file.now in
    let settings = c.args.settings.now in
    let starts = c.in_ok-starts.starts.items in
    IfErr-weaker c.load.result
    (λ (why : Refusal). (cause : ProgramRefusal) × (why ≡ refusal_of cause)
    × TellsLoad file settings.memory c.as_slice.result.now cause)
    (λ (why : Refusal). (cause : ProgramRefusal) × (why ≡ refusal_of cause) × IsNotLoaded file settings cause)
    (λ why h. (
      h.0,
      h.1,
      not_loaded_with file settings starts c.as_slice.result.now h.0 c.as_slice.ensures.value
          c.in_ok-starts.ensures.cores c.in_ok-starts.ensures.many c.in_ok-starts.ensures.starts h.2,
    ))
    c.load.ensures.none
