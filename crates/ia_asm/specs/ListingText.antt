-- The listing: a line for each instruction, and the lines of each line of `db` or `dd`, each `resb` and each `align`,
-- in the order of the source (docs/FORMATS.md, "Listing").
use Rattle.std.specs.Prelude.{ℕ, ◌+◌, ◌*◌, ◌/◌, ◌%◌, ◌^◌, Bool, true, false, ◌==◌, ◌&&◌, if◌then◌else◌, Option, Some}
use Rattle.std.specs.Prelude.{None, List, []}
use Rattle.std.specs.Prelude.{◌∷◌, ◌++◌, codes, drop, length, take}
use Rattle.std.specs.List.{flat_map, range_with_len}
use Rattle.hex.specs.Hex.{encode_lower}
use Rattle.text_out.specs.Number.{eight_digits}
use Rattle.ia_text.specs.Listing.{listing_line}
use Rattle.ia_item.specs.Expressions.{Env}
use Rattle.ia_item.specs.declared.item.Item.{Item}
use Rattle.ia_item.specs.declared.item.Item.TheVariants as item
use Rattle.ia_layout.specs.Placement.{EntryPlace, item_bytes}

-- the line with this index of bytes that stand at an address: its address, two spaces, and up to 12 bytes in hex
abbrev pub bytes_line : List ℕ → ℕ → ℕ → List ℕ
bytes_line bytes at i =
    eight_digits ((at + 12 * i) % 2 ^ 32) ++ codes "  " ++ encode_lower (take 12 (drop (12 * i) bytes)) ++ 10 ∷ []

-- their lines, 12 bytes each but for the last; no bytes have none
abbrev pub bytes_lines : ℕ → List ℕ → List ℕ
bytes_lines at bytes = flat_map (bytes_line bytes at) (range_with_len 0 ((length bytes + 11) / 12))

-- a part of a line of `db` or `dd`
unfoldable pub is_datum : Item → Bool
is_datum (item.Byte s) = true
is_datum (item.Text b) = true
is_datum (item.Numbers b) = true
is_datum (item.Long s) = true
is_datum _ = false

-- a part of such a line of this number
abbrev pub is_on : ℕ → EntryPlace → Bool
is_on line p = is_datum p.entry.item && (p.entry.line == line)

-- the bytes that follow on such a line
abbrev pub rest_of_line : Env → ℕ → List EntryPlace → List ℕ
rest_of_line env line [] = []
rest_of_line env line (p ∷ ps) = if is_on line p then item_bytes env p ++ rest_of_line env line ps else []

-- the lines of an item that stands alone
unfoldable pub own_line : Env → EntryPlace → Item → List ℕ
own_line env p (item.Code t) = listing_line (item_bytes env p) (p.at % 2 ^ 32)
own_line env p (item.Reserve s) = bytes_lines p.at (item_bytes env p)
own_line env p (item.Align n) = bytes_lines p.at (item_bytes env p)
own_line env p _ = []

-- it goes on with the line of `db` or `dd` before it, if there is one
abbrev pub goes_on : Option ℕ → EntryPlace → Bool
goes_on None p = false
goes_on (Some line) p = is_on line p

-- the lines from a place on, behind a line of `db` or `dd`, or not
abbrev pub lines_from : Env → Option ℕ → List EntryPlace → List ℕ
lines_from env row [] = []
lines_from env row (p ∷ ps) =
    if is_datum p.entry.item
    then (if goes_on row p then [] else bytes_lines p.at
    (item_bytes env p ++ rest_of_line env p.entry.line ps)) ++ lines_from env (Some p.entry.line) ps
    else own_line env p p.entry.item ++ lines_from env None ps

abbrev pub listing_text : Env → List EntryPlace → List ℕ
listing_text env ps = lines_from env None ps
