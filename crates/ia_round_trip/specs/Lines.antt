-- The text of an instruction takes one line.
use Rattle.std.specs.Prelude.{◌≡◌, ℕ, List, [], ◌∷◌, ◌++◌}
use Rattle.ia_insn.specs.declared.op.Insn.{Insn}
use Rattle.ia_lex.specs.Lines.{lines_of}
use Rattle.ia_text.specs.Text.{insn_text}

-- at the end of a source, and before further lines
abbrev pub TextIsOneLine : Type 0
TextIsOneLine = (i : Insn) (at : ℕ) → (lines_of (insn_text i at) ≡ insn_text i at ∷ [])
    × ((rest : List ℕ) → lines_of (insn_text i at ++ 10 ∷ rest) ≡ insn_text i at ∷ lines_of rest)
