use Rattle.std.proofs.Common.{◌∙◌, ap}
use Rattle.std.specs.Prelude.{flat_map}
use Rattle.indexmap.specs.IndexMap.{insert_all}
use Rattle.ia_item.specs.Names.{same_symbol}
use Rattle.ia_layout.specs.Placement.{definition, places, start}
use Rattle.ia_layout.specs.Contents.{symbols_with}
use Rattle.ia_asm.proofs.Outputs.{given_all}
use Rattle.ia_asm.proofs.ProgramLayouts.{table_found}
use Rattle.ia_asm.proofs.program_layout.find_symbols.Goals as goal

pub returns-clause-exact : goal.returns-clause-exact
returns-clause-exact c =
    let (es, reads, fits, (walked, taken)) = c.in_ok-placer.ensures.exact in
    let spots = places (start c.args.base c.args.tail) es in
    let table = c.in_ok-placer.placer.taker in
    table_found c.args.reader.now.source.now c.place_all.new.reader.names c.args.base c.args.tail table.values.entries (
      es,
      reads,
      fits,
      given_all symbols_with (record { values = c.new.result }) table spots taken
          ∙ ap (λ l. insert_all same_symbol l (flat_map definition spots)) c.new.ensures.empty,
    )
