-- What the lines that are left of a source ask for.
use Rattle.std.specs.Prelude.{◌≡◌, ℕ, List, [], drop, map, Result, Ok}
use Rattle.ia_item.specs.declared.item.Entry.{Entry}
use Rattle.ia_names.specs.declared.names.Names.{Names}
use Rattle.ia_names.specs.Namings.{IsNaming}
use Rattle.ia_lex.specs.Lines.{lines_of}
use Rattle.ia_source.specs.declared.fault.Why.{Why}
use Rattle.ia_source.specs.declared.rest.Rest.{Rest}
use Rattle.ia_source.specs.Contents.{EntryContent, Reading, entry_content}
use Rattle.ia_source.specs.Source.{lines_onto, source_content}

-- the entries so far, and behind them those of the lines that are left, or the first of these that is wrong
abbrev pub entries_with : Reading → Rest → Names → List Entry → Result (List EntryContent) (ℕ × Why)
entries_with r rest names es =
    lines_onto (source_content r rest.state names rest.defined es) (lines_of (drop rest.place rest.source.now))

-- the lines that are left ask for these entries, by any naming that has the names behind them
abbrev pub LeftAs : Rest → Names → Names → List Entry → Type 0
LeftAs rest old new es =
    (r : Reading) → IsNaming r.naming new → entries_with r rest old [] ≡ Ok (map (entry_content r) es)
