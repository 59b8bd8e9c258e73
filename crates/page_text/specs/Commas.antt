-- What stands between the texts of a list (docs/FORMATS.md, "Pages").
use Rattle.std.specs.Prelude.{ℕ, Bool, List, [], codes, if◌then◌else◌}

-- a comma, where something was written before
abbrev pub comma_if : Bool → List ℕ
comma_if some = if some then codes "," else []
