-- The line by which a command was refused (docs/FORMATS.md, "Options of the command line").
use Rattle.std.specs.Prelude.{ℕ, ◌||◌, Bool, nat_eq, codes, List, Option, option_map}
use Rattle.std.specs.List.{find, starts_with}
use Rattle.std.specs.Str.Lossy.{utf8_lossy}
use Rattle.ia_lex.specs.Lines.{lines_of}

-- the line that tells a fault, a misused option, or what is wrong with the words of a command line
abbrev pub is_refusal : List ℕ → Bool
is_refusal line =
    starts_with nat_eq line (codes "fault ") || starts_with nat_eq line (codes "usage: ")
    || starts_with nat_eq line (codes "error: ")

-- the first such line of standard error, as a text
abbrev pub refusal_of : List ℕ → Option (List ℕ)
refusal_of errors = option_map utf8_lossy (find is_refusal (lines_of errors))
