-- Operands (NASM manual, "Layout of a NASM Source Line"): a register; a place in brackets, behind a size word or none;
-- an expression, behind `near`, `short` or neither.
use Rattle.std.specs.Prelude.{ℕ, ◌==◌, if◌then◌else◌, Option, Some, None, option_map, List, [], ◌∷◌, codes}
use Rattle.ia_word.specs.declared.width.Width.{Width}
use Rattle.ia_word.specs.declared.width.Width.TheVariants.{B, D}
use Rattle.ia_lex.specs.Words.{register_of, find_word}
use Rattle.ia_lex.specs.Tokens.{Lexeme, Word, Mark}
use Rattle.ia_lex.specs.Terms.{TermContent, expression_at}
use Rattle.ia_lex.specs.declared.terms.Term.{Term}
use Rattle.arrayvec.specs.ArrayVec.{ArrayVec}
use Rattle.ia_form.specs.declared.shape.OperandShape.{OperandShape}
use Rattle.ia_form.specs.declared.shape.OperandShape.TheVariants as shape
use Rattle.ia_form.specs.declared.shape.OperandShapes.{OperandShapes}
use Rattle.ia_form.specs.declared.shape.OperandShapes.TheVariants.{Nothing, One, Two, Three}
use Rattle.ia_source.specs.declared.operand.OperandPrefix.{OperandPrefix}
use Rattle.ia_source.specs.declared.operand.OperandPrefix.TheVariants.{Register, Size, Near, Short}
use Rattle.ia_source.specs.declared.operand.Operands.{Operands as CodeOperands}
use Rattle.ia_source.specs.Keywords.{or_else}
use Rattle.ia_source.specs.Commas.{between_commas}
use Rattle.ia_source.specs.MemoryOperands.{memory_of, terms_content}

-- an operand, and the terms of its expression or displacement
pub record Operand : Type 0 where
  pub shape : OperandShape
  pub terms : List TermContent

-- an expression that takes all of the tokens
abbrev pub whole : Option (List TermContent × List Lexeme) → Option (List TermContent)
whole (Some (ps, [])) = Some ps
whole _ = None

abbrev pub expression_of : List Lexeme → Option (List TermContent)
expression_of ts = whole (expression_at ts)

abbrev pub expression_operand : OperandShape → List Lexeme → Option Operand
expression_operand s ts = option_map (λ ps. record { shape = s; terms = ps }) (expression_of ts)

-- the place behind an opening bracket, with this size word or none
abbrev pub memory_operand : Option Width → List Lexeme → Option Operand
memory_operand size ts = option_map (λ p. record { shape = shape.Memory size p.mem; terms = p.terms }) (memory_of ts)

-- what follows a size word
abbrev pub sized_memory : Width → List Lexeme → Option Operand
sized_memory w (Mark b ∷ ts) = if b == 91 then memory_operand (Some w) ts else None
sized_memory w _ = None

-- what follows a register
abbrev pub register_operand : Width → ℕ → List Lexeme → Option Operand
register_operand w r [] = Some (record { shape = shape.Register w r; terms = [] })
register_operand w r (t ∷ ts) = None

abbrev pub prefix_rows : List (List ℕ × OperandPrefix)
prefix_rows = (codes "byte", Size B) ∷ (codes "dword", Size D) ∷ (codes "near", Near) ∷ (codes "short", Short) ∷ []

-- a word that decides what operand follows
abbrev pub prefix_of : List ℕ → Option OperandPrefix
prefix_of w = or_else (option_map (λ r. Register r.0 r.1) (register_of w)) (find_word prefix_rows w)

abbrev pub by_prefix : Option OperandPrefix → List ℕ → List Lexeme → Option Operand
by_prefix None w ts = expression_operand shape.Number (Word w ∷ ts)
by_prefix (Some (Register v r)) w ts = register_operand v r ts
by_prefix (Some (Size v)) w ts = sized_memory v ts
by_prefix (Some Near) w ts = expression_operand shape.Near ts
by_prefix (Some Short) w ts = expression_operand shape.Short ts

-- the operand that tokens are
unfoldable pub operand_of : List Lexeme → Option Operand
operand_of [] = None
operand_of (Word w ∷ ts) = by_prefix (prefix_of w) w ts
operand_of (Mark b ∷ ts) = if b == 91 then memory_operand None ts else expression_operand shape.Number (Mark b ∷ ts)
operand_of (t ∷ ts) = expression_operand shape.Number (t ∷ ts)

-- ---- all operands of an instruction

-- the shapes of the operands, the terms of the one that is an expression, and those of the one that is a place
pub record Operands : Type 0 where
  pub shapes : OperandShapes
  pub number : List TermContent
  pub displacement : List TermContent

abbrev pub with_shape : OperandShapes → OperandShape → Option OperandShapes
with_shape Nothing s = Some (One s)
with_shape (One a) s = Some (Two a s)
with_shape (Two a b) s = Some (Three a b s)
with_shape (Three a b c) s = None

abbrev pub with_terms : Operands → OperandShape → List TermContent → OperandShapes → Operands
with_terms os (shape.Register w r) ps shapes = record {
  shapes = shapes;
  number = os.number;
  displacement =
      os.displacement;
}
with_terms os (shape.Memory size m) ps shapes = record { shapes = shapes; number = os.number; displacement = ps }
with_terms os _ ps shapes = record { shapes = shapes; number = ps; displacement = os.displacement }

-- one more operand, of at most three
abbrev pub with_operand : Operands → Operand → Option Operands
with_operand os o = option_map (with_terms os o.shape o.terms) (with_shape os.shapes o.shape)

abbrev pub by_operands : Option Operands → (Operands → Option Operands) → Option Operands
by_operands None next = None
by_operands (Some os) next = next os

abbrev pub by_operand : Operands → Option Operand → (Operands → Option Operands) → Option Operands
by_operand os None next = None
by_operand os (Some o) next = by_operands (with_operand os o) next

-- operands, and those that pieces are
abbrev pub operands_from : Operands → List (List Lexeme) → Option Operands
operands_from os [] = Some os
operands_from os (p ∷ ps) = by_operand os (operand_of p) (λ more. operands_from more ps)

abbrev pub empty_operands : Operands
empty_operands = record { shapes = Nothing; number = []; displacement = [] }

-- the operands that tokens are, between commas
abbrev pub operands_of : List Lexeme → Option Operands
operands_of [] = Some empty_operands
operands_of (t ∷ ts) = operands_from empty_operands (between_commas (t ∷ ts))

-- ---- what the code's values stand for

-- where the terms of an operand of this shape go: a place's to the displacement, a number's to the number
abbrev pub placed_by : OperandShape → List TermContent → List TermContent → List TermContent
    → OperandShape × List TermContent × List TermContent
placed_by (shape.Register w r) number displacement ps = (shape.Register w r, number, displacement)
placed_by (shape.Memory size m) number displacement ps = (shape.Memory size m, number, ps)
placed_by s number displacement ps = (s, ps, displacement)

abbrev pub operand_content : OperandShape → ArrayVec Term → Operand
operand_content s e = record { shape = s; terms = terms_content e }

-- an operand's shape, and behind the terms of earlier operands its own: those of an expression, or those of a place
abbrev pub terms_placed : List TermContent → List TermContent → Operand
    → OperandShape × List TermContent × List TermContent
terms_placed number displacement o = placed_by o.shape number displacement o.terms

abbrev pub operands_content : CodeOperands → Operands
operands_content os = record {
  shapes = os.shapes;
  number = terms_content os.number;
  displacement = terms_content
      os.displacement;
}
