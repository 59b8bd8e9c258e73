use Rattle.std.proofs.Common.{subst}
use Rattle.ia_asm.specs.ProgramLayouts.{IsLayout}
use Rattle.ia_asm.proofs.ProgramLayouts.{all_laid}
use Rattle.ia_asm.proofs.Readings.{asks_for, of_more, of_read}
use Rattle.ia_asm.proofs.program_layout.take_all.Goals as goal

pub returns : goal.returns
returns g c =
    let (es, reads, fits, (walked, taken)) = c.in_ok-placer.ensures.exact in
    let source = c.args.reader.now.source.now in
    let names = c.place_all.new.reader.names in
    let layout = c.args.layout.now in
    let laid : IsLayout es layout = of_read source names (λ es. IsLayout es layout) es reads
    (of_more source c.args.reader.now.names names (λ es. IsLayout es layout) c.in_ok-placer.ensures.grows
    c.requires) in (
      es,
      asks_for source names es reads,
      fits,
      laid,
      subst (λ ps. g.T.Taker.Taken c.args.taker ps c.in_ok-placer.placer.taker) (all_laid es layout laid.1) taken,
    )
