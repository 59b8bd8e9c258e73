use Rattle.ia_asm.proofs.Outputs.{has_bytes}
use Rattle.ia_asm.proofs.from_source.take_code.Goals as goal

pub returns : goal.returns
returns c =
    let (es, asks, fits, laid, kept) = c.in_ok-taken.ensures in
    let e = c.new-taker.ensures in (
      es,
      asks,
      fits,
      laid,
      has_bytes es c.args.layout.now c.new-taker.result c.in_ok-taken.taken laid e.symbols e.code e.tail kept.0 kept.1,
    )
