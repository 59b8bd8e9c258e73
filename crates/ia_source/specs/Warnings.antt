-- What is told of a source that may not say what was meant (docs/FORMATS.md, "Warnings").
use Rattle.std.specs.Prelude.{ℕ, ◌+◌, if◌then◌else◌, Option, Some, None, List, [], ◌∷◌, ◌++◌, codes}
use Rattle.std.specs.Fmt.{decimal}
use Rattle.ia_lex.specs.Alone.{only_word}
use Rattle.ia_lex.specs.Lines.{lines_of}
use Rattle.ia_lex.specs.Tokens.{tokens_of}
use Rattle.ia_source.specs.Heads.{is_label}

abbrev pub if_label : Option (List ℕ) → Option (List ℕ)
if_label None = None
if_label (Some word) = if is_label word then Some word else None

-- the only token of a line is this label: no colon, no instruction and no directive stands behind it
abbrev pub lone_label : List ℕ → Option (List ℕ)
lone_label line = if_label (only_word (tokens_of line))

abbrev pub warning : ℕ → List ℕ → List ℕ
warning number label =
    codes "warning line " ++ (decimal number ++ (codes ": label '" ++ (label
    ++ (codes "' alone on a line without a colon" ++ 10 ∷ []))))

abbrev pub line_warning : ℕ → Option (List ℕ) → List ℕ
line_warning number None = []
line_warning number (Some label) = warning number label

-- of lines, the first of which has this number
abbrev pub warnings_from : ℕ → List (List ℕ) → List ℕ
warnings_from number [] = []
warnings_from number (line ∷ more) = line_warning number (lone_label line) ++ warnings_from (number + 1) more

abbrev pub warnings : List ℕ → List ℕ
warnings source = warnings_from 1 (lines_of source)
