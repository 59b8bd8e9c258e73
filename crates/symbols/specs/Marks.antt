-- Symbols in the order of their addresses (docs/FORMATS.md, "Listing").
use Rattle.std.specs.Prelude.{ℕ, ◌==◌, List}
use Rattle.std.specs.List.{filter}
use Rattle.symbols.specs.declared.marks.Mark.{Mark}

-- those at an address
abbrev pub marks_at : List Mark → ℕ → List Mark
marks_at marks at = filter (λ m. m.address == at) marks
