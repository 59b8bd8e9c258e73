use Rattle.std.proofs.Common.{◌∙◌, subst}
use Rattle.ia_source.specs.Source.{AsksFor}
use Rattle.ia_asm.proofs.from_source.assemble_listing.Goals as goal

pub returns : goal.returns
returns c =
    let (es, asks, fits, laid, lines) = c.in_ok-taken.ensures in (
      es,
      subst (λ s. AsksFor s es) (c.in_ok-layout.ensures.source ∙ c.new-reader.ensures) asks,
      laid.0,
      c.in_ok-listing.ensures ∙ lines,
    )
