use Rattle.std.proofs.Common.{◌∙◌, subst}
use Rattle.ia_source.specs.Source.{AsksFor}
use Rattle.ia_asm.proofs.Outputs.{image_is}
use Rattle.ia_asm.proofs.ProgramLayouts.{begins_before_end, ends_near}
use Rattle.ia_asm.proofs.from_source.assemble_image.Goals as goal

pub image_of-requires-clause-begins : goal.image_of-requires-clause-begins
image_of-requires-clause-begins c =
    let (es, asks, fits, laid, (bytes, names, kinds, lines)) = c.in_ok-taken.ensures in
    begins_before_end es c.in_ok-layout.layout laid

pub image_of-requires-clause-short : goal.image_of-requires-clause-short
image_of-requires-clause-short c =
    let (es, asks, fits, laid, (bytes, names, kinds, lines)) = c.in_ok-taken.ensures in
    ends_near es c.in_ok-layout.layout laid

pub returns : goal.returns
returns c =
    let (es, asks, fits, laid, (bytes, names, kinds, lines)) = c.in_ok-taken.ensures in
    let e = c.in_ok-image.ensures in
    let code = c.in_ok-taken.taken.first.first in
    let image = c.in_ok-image.image in
    let is = image_is es c.in_ok-layout.layout code.code.items code.tail.items image.image.items image.base
    image.code_len fits laid bytes.0 bytes.1 e.base e.image e.code_len in (
      es,
      subst (λ s. AsksFor s es) (c.in_ok-layout.ensures.source ∙ c.new-reader.ensures) asks,
      (is, names, kinds, lines),
    )
