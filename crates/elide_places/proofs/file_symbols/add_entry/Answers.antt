use Rattle.std.proofs.Common.{◌+◌, List, subst, sym}
use Rattle.symbols.specs.Symbols.{symbol_in}
use Rattle.symbols.specs.declared.symbol.Symbol.{Symbol}
use Rattle.elide_places.specs.FileSymbols.{IsFirstBelow}
use Rattle.elide_places.proofs.Rows.{entry_taken}
use Rattle.elide_places.proofs.file_symbols.add_entry.Goals as goal

pub returns-in_ok-push : goal.returns-in_ok-push
returns-in_ok-push c name so_far =
    let said = c.in-Some.ensures in
    subst (λ (row : List Symbol). IsFirstBelow c.args.elf.now.symbols c.args.elf.now.strings (c.args.index + 1) name
    (symbol_in row name)) (sym c.in_ok-push.ensures.items)
    (entry_taken c.args.elf.now.symbols c.args.elf.now.strings c.args.index name c.in-Some.entry.name.now
    c.in-Some.entry.value c.args.row.now.items c.in_ok-symbol.symbol
    c.in_ok-symbol.ensures.name c.in_ok-symbol.ensures.value said.0
    said.1 said.2 so_far)
