-- What a listing in the making stands for.
use Rattle.std.specs.Prelude.{ℕ, Option, Some, None, List, [], ◌++◌}
use Rattle.ia_item.specs.Expressions.{Env}
use Rattle.ia_resolve.specs.Symbols.{known}
use Rattle.ia_asm.specs.declared.listing.ListingRow.{ListingRow}
use Rattle.ia_asm.specs.declared.listing.Lister.{Lister}
use Rattle.ia_layout.specs.Placement.{EntryPlace}
use Rattle.ia_asm.specs.ListingText.{bytes_lines, rest_of_line, lines_from}

abbrev pub row_text : Option ListingRow → List ℕ → List ℕ
row_text None bytes = []
row_text (Some r) bytes = bytes_lines r.at bytes

abbrev pub row_line : Option ListingRow → Option ℕ
row_line None = None
row_line (Some r) = Some r.line

-- the lines that a row with these bytes so far begins, with the places behind
abbrev pub pending : Env → Option ListingRow → List ℕ → List EntryPlace → List ℕ
pending env None bytes ps = lines_from env None ps
pending env (Some r) bytes ps =
    bytes_lines r.at (bytes ++ rest_of_line env r.line ps) ++ lines_from env (Some r.line) ps

-- the lines so far, and those of the places behind
abbrev pub listing_with : Lister → List EntryPlace → List ℕ
listing_with l ps = l.out.bytes.items ++ pending (known l.symbols.now.values.entries) l.row l.bytes.items ps
