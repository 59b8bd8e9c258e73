-- The outcome line of a step that goes on with what the step did (docs/FORMATS.md, "Traces").
use Rattle.std.specs.Prelude.{ℕ, ◌%◌, List, [], ◌∷◌, ◌++◌, codes, Option, Some, None}
use Rattle.hex.specs.Hex.{encode_lower}
use Rattle.debug_command.specs.Places.{place_text}
use Rattle.symbols.specs.declared.symbol.Symbol.{Symbol}
use Rattle.ia_insn.specs.declared.op.Insn.{Insn}
use Rattle.text_out.specs.Number.{eight_digits, hex_digits}
use Rattle.ia_text.specs.Text.{insn_text}
use Rattle.text_out.specs.TextLine.{line_end, number_text}
use Rattle.ia_word.specs.declared.width.Width.{Width}
use Rattle.ia_word.specs.declared.width.Width.TheVariants.{B, D}
use Rattle.tm_hist.specs.Lines.{outcome_words}
use Rattle.tm_model.specs.declared.outcome.Outcome.{Outcome}
use Rattle.tm_trace.specs.declared.deed.Datum.{Datum}
use Rattle.tm_trace.specs.declared.deed.Deed.{Deed}

-- the core, what the step was, and the address
unfoldable pub front_text : ℕ → Outcome → ℕ → List ℕ
front_text core outcome eip =
    number_text core ++ codes " " ++ outcome_words outcome ++ codes " " ++ eight_digits eip

abbrev pub insn_behind : Option Insn → ℕ → List ℕ
insn_behind None at = []
insn_behind (Some insn) at = codes " " ++ insn_text insn at

abbrev pub value_text : Width → ℕ → List ℕ
value_text B value = encode_lower (value % 256 ∷ [])
value_text D value = eight_digits value

-- a number behind its address
unfoldable pub datum_text : Option Datum → List ℕ
datum_text None = []
datum_text (Some datum) = codes " [" ++ hex_digits datum.address ++ codes "]=" ++ value_text datum.width datum.value

-- what was loaded, and then what was stored
abbrev pub values_text : Deed → List ℕ
values_text deed = datum_text deed.loaded ++ datum_text deed.stored

-- the label at the address or the nearest below, the instruction, and the numbers
abbrev pub deed_text : List Symbol → Deed → List ℕ
deed_text labels deed = place_text labels deed.eip ++ (insn_behind deed.insn deed.eip ++ values_text deed)

-- the line, and what stands behind the deed
abbrev pub step_line : List Symbol → ℕ → Outcome → Deed → List ℕ
step_line labels core outcome deed = front_text core outcome deed.eip ++ (deed_text labels deed ++ line_end)
