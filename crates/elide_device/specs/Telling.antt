-- Whether words are told beside a fault (docs/FORMATS.md, "Options of the command line").
use Rattle.std.specs.Prelude.{Bool, true, false, ◌||◌}
use Rattle.elide_color.specs.declared.colors.When.{When}
use Rattle.elide_color.specs.declared.colors.When.TheVariants.{Auto, Always, Never}

-- whether it is told beside a fault where it stands and what is meant, by the value of `--words`, by whether the device
-- for errors is a terminal's, and by whether ELIDE_WORDS asks for it
abbrev pub are_told : When → Bool → Bool → Bool
are_told Auto is_terminal is_asked = is_terminal || is_asked
are_told Always is_terminal is_asked = true
are_told Never is_terminal is_asked = false
