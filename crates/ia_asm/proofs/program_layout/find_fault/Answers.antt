use Rattle.std.proofs.Common.{◌∙◌, sym}
use Rattle.ia_resolve.specs.Symbols.{known}
use Rattle.ia_layout.specs.Placement.{places, start}
use Rattle.ia_asm.specs.Takers.{faults_with}
use Rattle.ia_asm.specs.ProgramLayouts.{ArePlaced}
use Rattle.ia_asm.proofs.FaultLemmas.{ended}
use Rattle.ia_asm.proofs.Outputs.{given_all}
use Rattle.ia_asm.proofs.ProgramLayouts.{fault_is}
use Rattle.ia_asm.proofs.Readings.{of_more, of_read}
use Rattle.ia_asm.proofs.program_layout.find_fault.Goals as goal

pub returns-clause-exact : goal.returns-clause-exact
returns-clause-exact c =
    let (es, reads, fits, (walked, taken)) = c.in_ok-placer.ensures.exact in
    let source = c.args.reader.now.source.now in
    let names = c.place_all.new.reader.names in
    let layout = c.args.layout.now in
    let spots = places (start layout.base layout.tail) es in
    let search = c.in_ok-placer.placer.taker in
    let are : ArePlaced es layout = of_read source names (λ es. ArePlaced es layout) es reads
    (of_more source c.args.reader.now.names names (λ es. ArePlaced es layout) c.in_ok-placer.ensures.grows
    c.requires) in (
      es,
      reads,
      fits,
      sym (ended (known search.symbols.now.values.entries) search.base search.found)
          ∙ given_all faults_with c.new-search.result search spots taken ∙ c.new-search.ensures spots
          ∙ fault_is es layout are,
    )
