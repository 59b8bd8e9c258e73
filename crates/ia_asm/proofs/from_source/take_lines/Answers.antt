use Rattle.ia_asm.proofs.Outputs.{listing_is}
use Rattle.ia_asm.proofs.from_source.take_lines.Goals as goal

pub returns : goal.returns
returns c =
    let (es, asks, fits, laid, kept) = c.in_ok-taken.ensures in (
      es,
      asks,
      fits,
      laid,
      listing_is es c.args.layout.now c.new-taker.result c.in_ok-taken.taken laid c.new-taker.ensures.empty kept,
    )
