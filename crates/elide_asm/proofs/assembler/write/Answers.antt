use Rattle.std.proofs.Common.{ℕ, List, ap, inr, refl}
use Rattle.std.proofs.lemmas.Result.{err_from_is_err_and}
use Rattle.ia_image.specs.ImageText.{image_text}
use Rattle.elide_asm.proofs.assembler.write.Goals as goal

pub returns : goal.returns
returns g c =
    let code = c.in_ok-code.code in
    let text : List ℕ → List ℕ = λ bytes. image_text bytes code.base code.code_len in (
      text c.as_slice.result.now,
      (code, c.in_ok-code.ensures, ap text c.as_slice.ensures.value),
      c.in_ok-write_image.ensures.text,
    )

pub returns-in_err-write_image : goal.returns-in_err-write_image
returns-in_err-write_image g c =
    let code = c.in_ok-code.code in
    let text : List ℕ → List ℕ = λ bytes. image_text bytes code.base code.code_len in
    let r = c.from_residual-in_err-write_image in
    let p = err_from_is_err_and r.result r.ensures.1 in
    rw (p.1, p.2)
    (inr (
      c.in_err-write_image.field-0.0,
      refl,
      text c.as_slice.result.now,
      (code, c.in_ok-code.ensures, ap text c.as_slice.ensures.value),
      c.in_err-write_image.ensures.text,
    ))
