-- The instruction that printed operands are read as.
use Rattle.std.specs.Prelude.{◌≡◌, ℕ, IsTrue, Option, Some, None, List, [], ◌∷◌}
use Rattle.ia_insn.specs.declared.op.Insn.{Insn}
use Rattle.ia_insn.specs.Encoding.{is_encodable}
use Rattle.ia_insn.specs.Mnemonics.{mnemonic_of}
use Rattle.ia_lex.specs.Terms.{TermContent}
use Rattle.ia_form.specs.Forms.{instruction_of}
use Rattle.ia_source.specs.Operands.{Operands, empty_operands}
use Rattle.ia_round_trip.specs.Operands.{operands_for, args_of}
use Rattle.ia_round_trip.specs.Resolution.{resolved_insn}

-- an expression, where it has terms
abbrev pub expression_of : List TermContent → Option (List TermContent)
expression_of [] = None
expression_of (p ∷ ps) = Some (p ∷ ps)

-- the mnemonic of an encodable instruction and the operands that are printed for it at an address fit a form, which is
-- the instruction with the values of its expressions filled in at that address
abbrev pub FormReadsBack : Type 0
FormReadsBack = (i : Insn) (at : ℕ) → IsTrue (is_encodable i)
    → (os : Operands) × (t : Insn) × (operands_for empty_operands (args_of i.op at) ≡ Some os)
    × (instruction_of i.lock (mnemonic_of i.op) os.shapes ≡ Some t)
    × (resolved_insn at t (expression_of os.number) (expression_of os.displacement) ≡ Some i)
