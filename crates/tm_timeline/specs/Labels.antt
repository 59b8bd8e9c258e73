-- Characters that no label shows as they are (Extensible Markup Language 1.0, sections 2.2 "Characters" and 2.4
-- "Character Data and Markup").
use Rattle.std.specs.Prelude.{ℕ, Bool, ◌==◌, ◌||◌, nat_lt}

-- the marks of tags, references and attributes, and characters that a document cannot hold
abbrev pub is_markup : ℕ → Bool
is_markup c =
    (c == 60) || (c == 62) || (c == 38) || (c == 39) || (c == 34) || nat_lt c 32 || (c == 65534) || (c == 65535)
