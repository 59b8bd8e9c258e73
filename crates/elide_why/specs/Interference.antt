-- The line of an abort from outside of the program (docs/FORMATS.md, "Why a transaction aborted").
use Rattle.std.specs.Prelude.{ℕ, List, [], ◌++◌, codes, Option, Some, None}
use Rattle.std.specs.Fmt.{decimal}
use Rattle.ia_insn.specs.declared.op.Insn.{Insn}
use Rattle.text_out.specs.Number.{eight_digits}
use Rattle.text_out.specs.TextLine.{line_end}
use Rattle.elide_why.specs.Lines.{insn_words}
use Rattle.tm_why.specs.Lines.{begun_words}
use Rattle.elide_why.specs.declared.words.Words.{Words}

abbrev pub space_before : Option Insn → List ℕ
space_before None = []
space_before (Some insn) = codes " "

-- the word of what came, and where the core stood
unfoldable pub interference_front : ℕ → List ℕ → ℕ → Words → List ℕ
interference_front core word status words =
    decimal core ++ codes " aborted " ++ eight_digits status ++ codes " " ++ word
    ++ codes " at " ++ words.place.items ++ space_before words.insn

unfoldable pub interference_back : Option ℕ → List ℕ
interference_back begun = begun_words begun ++ line_end

-- the outcome line, which goes on with the place and text of the instruction that was next, and with when the
-- transaction began
abbrev pub interference_line : ℕ → List ℕ → ℕ → Option ℕ → Words → List ℕ
interference_line core word status begun words =
    interference_front core word status words ++ (insn_words words.insn words.eip ++ interference_back begun)
