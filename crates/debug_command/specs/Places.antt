-- What labels say of an address (docs/FORMATS.md, "Debugger").
use Rattle.std.specs.Prelude.{ℕ, ◌+◌, ◌-◌, ◌==◌, if◌then◌else◌, List, [], ◌++◌, codes, length, Option, Some, None}
use Rattle.std.specs.List.{flat_map}
use Rattle.ia_text.specs.Listing.{listing_line}
use Rattle.text_out.specs.Number.{number}
use Rattle.symbols.specs.Shown.{shown_name}
use Rattle.symbols.specs.Symbols.{first_nearest}
use Rattle.symbols.specs.declared.symbol.Symbol.{Symbol}

abbrev pub distance_text : ℕ → List ℕ
distance_text distance = if distance == 0 then [] else codes "+" ++ number distance

abbrev pub label_text : Option Symbol → ℕ → List ℕ
label_text None address = []
label_text (Some label) address =
    codes " <" ++ (shown_name label.name.items ++ (distance_text (address - label.value) ++ codes ">"))

-- the label at an address, or the nearest below with the distance
abbrev pub place_text : List Symbol → ℕ → List ℕ
place_text labels address = label_text (first_nearest labels (address + 1)) address

abbrev pub name_line : ℕ → Symbol → List ℕ
name_line at label = if label.value == at then shown_name label.name.items ++ codes ":\n" else []

-- the names of the labels at an address, a line each
unfoldable pub names_text : List Symbol → ℕ → List ℕ
names_text labels at = flat_map (name_line at) labels

-- the names of the labels above some code, and its listing line
abbrev pub labelled_line : List Symbol → List ℕ → ℕ → List ℕ
labelled_line labels code at = (if length code == 0 then [] else names_text labels at) ++ listing_line code at
