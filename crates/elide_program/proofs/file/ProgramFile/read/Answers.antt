use Rattle.std.proofs.Common.{rules, refl}
use Rattle.std.proofs.lemmas.Result.{err_from_is_err_and}
use Rattle.elide_program.specs.Refusals.{no_image, no_source}
use Rattle.elide_program.proofs.file.ProgramFile.read.Goals as goal

pub returns-in_err-read_image-in-Image-clause-none : goal.returns-in_err-read_image-in-Image-clause-none
returns-in_err-read_image-in-Image-clause-none c =
    let r = c.from_residual-in_err-read_image-in-Image in
    let p = err_from_is_err_and r.result r.ensures.1 in
    let h = c.in_err-read_image-in-Image in
    rw (p.1, p.2) (no_image h.field-0.0 (search rules) h.ensures refl)

pub returns-in_err-assemble_image-in-Source-clause-none : goal.returns-in_err-assemble_image-in-Source-clause-none
returns-in_err-assemble_image-in-Source-clause-none c =
    let r = c.from_residual-in_err-assemble_image-in-Source in
    let p = err_from_is_err_and r.result r.ensures.1 in
    let h = c.in_err-assemble_image-in-Source in
    rw (p.1, p.2) (no_source h.field-0.0 (search rules) h.ensures refl)
