-- The operands that printed ones are read as.
use Rattle.std.specs.Prelude.{◌≡◌, ℕ, Bool, false, IsTrue, ◌==◌, ◌&&◌, ◌||◌, nat_lt, if◌then◌else◌, is_some}
use Rattle.std.specs.Prelude.{option_to_list, Option, Some, None, List, [], ◌∷◌, ◌++◌}
use Rattle.std.specs.List.{AllByRecursion}
use Rattle.ia_word.specs.declared.width.Width.TheVariants.{B}
use Rattle.ia_insn.specs.declared.op.Op.{Op}
use Rattle.ia_insn.specs.declared.operand.Mem.{Mem}
use Rattle.ia_insn.specs.Writing.{fits_mem}
use Rattle.ia_item.specs.Fields.{with_disp}
use Rattle.ia_lex.specs.Numbers.{small}
use Rattle.ia_lex.specs.Terms.{TermContent, NumberAtom}
use Rattle.ia_text.specs.declared.arg.Arg.{Arg}
use Rattle.ia_text.specs.declared.arg.Arg.TheVariants as arg
use Rattle.ia_text.specs.Arguments.{first_arg, second_arg, third_arg}
use Rattle.ia_form.specs.declared.shape.OperandShape.TheVariants as shape
use Rattle.ia_source.specs.Operands.{Operand, Operands, operand_of, operands_of, with_operand, by_operands}
use Rattle.ia_source.specs.Operands.{empty_operands}
use Rattle.ia_round_trip.specs.PrintedTokens.{arg_tokens, args_tokens}

-- a number that is added
abbrev pub part_of : ℕ → TermContent
part_of n = record { negative = false; atom = NumberAtom (small n) }

-- the displacement, where it is printed
abbrev pub disp_terms : Bool → ℕ → List TermContent
disp_terms before disp = if before && (disp == 0) then [] else part_of disp ∷ []

abbrev pub displacement_terms : Mem → List TermContent
displacement_terms m = disp_terms (is_some m.base || is_some m.index) m.disp

-- the operand that a printed one is read as; its displacement stands as 0
abbrev pub operand_for : Arg → Operand
operand_for (arg.Register w r) = record { shape = shape.Register w r; terms = [] }
operand_for (arg.Place w m) = record { shape = shape.Memory (Some w) (with_disp m 0); terms = displacement_terms m }
operand_for (arg.Address m) = record { shape = shape.Memory None (with_disp m 0); terms = displacement_terms m }
operand_for (arg.Number n) = record { shape = shape.Number; terms = part_of n ∷ [] }
operand_for (arg.Short n) = record { shape = shape.Short; terms = part_of n ∷ [] }
operand_for arg.Cl = record { shape = shape.Register B 1; terms = [] }

-- an operand of an encodable instruction
abbrev pub FitsArg : Arg → Type 0
FitsArg (arg.Register w r) = IsTrue (nat_lt r 8)
FitsArg (arg.Place w m) = IsTrue (fits_mem m)
FitsArg (arg.Address m) = IsTrue (fits_mem m)
FitsArg _ = Unit {0}

abbrev pub operands_for : Operands → List Arg → Option Operands
operands_for os [] = Some os
operands_for os (a ∷ rest) = by_operands (with_operand os (operand_for a)) (λ more. operands_for more rest)

-- the operands that are printed
abbrev pub args_of : Op → ℕ → List Arg
args_of o at = option_to_list (first_arg o at) ++ option_to_list (second_arg o at) ++ option_to_list (third_arg o at)

-- the tokens of an operand are read as it
abbrev pub OperandReadsBack : Type 0
OperandReadsBack = (a : Arg) → FitsArg a → operand_of (arg_tokens a) ≡ Some (operand_for a)

-- the tokens of the operands of an operation are read as them
abbrev pub OperandsReadBack : Type 0
OperandsReadBack = (o : Op) (at : ℕ) → AllByRecursion FitsArg (args_of o at) → operands_of (args_tokens o at)
    ≡ operands_for empty_operands (args_of o at)
