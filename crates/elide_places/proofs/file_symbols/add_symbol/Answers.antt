use Rattle.std.proofs.Common.{List, ap, ◌∙◌, sym}
use Rattle.symbols.specs.Symbols.{symbol_in}
use Rattle.symbols.specs.declared.symbol.Symbol.{Symbol}
use Rattle.elide_places.proofs.Rows.{symbol_taken, take_next}
use Rattle.ia_asm.specs.Assemblies.{known_as}
use Rattle.elide_places.proofs.file_symbols.add_symbol.Goals as goal

pub returns-in_ok-push : goal.returns-in_ok-push
returns-in_ok-push c name so_far =
    ap (λ (row : List Symbol). symbol_in row name) c.in_ok-push.ensures.items
    ∙ symbol_taken _ c.in-Some.name.now c.in-Some.value.now name c.args.row.now.items c.in_ok-symbol.symbol
    c.in_ok-symbol.ensures.name c.in_ok-symbol.ensures.value so_far
    ∙ ap (known_as name) (sym (take_next c.args.symbols.now.entries c.args.index _ (sym c.in-Some.ensures.entry)))
