-- No symbol stands in what printed operands are read as.
use Rattle.std.proofs.Common.{◌≡◌, ℕ, Bool, true, false, cond, List, [], ◌∷◌, Option, Some, None, refl, ◌∙◌, ap, map}
use Rattle.std.proofs.Common.{is_some, subst}
use Rattle.std.specs.Prelude.{◌&&◌, ◌||◌, ◌==◌, option_map}
use Rattle.ia_lex.specs.Terms.{AtomContent, NumberAtom, SymbolAtom, TermContent}
use Rattle.ia_text.specs.declared.arg.Arg.{Arg}
use Rattle.ia_text.specs.declared.arg.Arg.TheVariants as arg
use Rattle.ia_form.specs.declared.shape.OperandShape.{OperandShape}
use Rattle.ia_form.specs.declared.shape.OperandShape.TheVariants as shape
use Rattle.ia_form.specs.declared.shape.OperandShapes.{OperandShapes}
use Rattle.ia_source.specs.Symbols.{atom_in_scope, term_in_scope, terms_in_scope}
use Rattle.ia_source.specs.Operands.{Operands, with_shape, with_terms, with_operand, by_operands}
use Rattle.ia_round_trip.specs.Operands.{part_of, operand_for, operands_for}
use Rattle.ia_round_trip.specs.Forms.{expression_of}

abbrev IsNumber : AtomContent → Type 0
IsNumber (NumberAtom n) = Unit {0}
IsNumber (SymbolAtom name) = ⊥

abbrev AreNumbers : List TermContent → Type 0
AreNumbers [] = Unit {0}
AreNumbers (p ∷ ps) = IsNumber p.atom × AreNumbers ps

abbrev pub Plain : Operands → Type 0
Plain os = AreNumbers os.number × AreNumbers os.displacement

abbrev pub PlainIf : Option Operands → Type 0
PlainIf None = Unit {0}
PlainIf (Some os) = Plain os

-- ---- expressions without symbols are the same wherever they stand

value_same : (scope : List ℕ) (v : AtomContent) → IsNumber v → atom_in_scope scope v ≡ v
value_same scope (NumberAtom n) h = refl
value_same scope (SymbolAtom name) h = absurd h

parts_same : (scope : List ℕ) (ps : List TermContent) → AreNumbers ps → map (term_in_scope scope) ps ≡ ps
parts_same scope [] h = refl
parts_same scope (p ∷ ps) h =
    ap (λ v. (record { negative = p.negative; atom = v }) ∷ map (term_in_scope scope) ps) (value_same scope p.atom h.0)
    ∙ ap (λ qs. p ∷ qs) (parts_same scope ps h.1)

pub written_same : (scope : List ℕ) (ps : List TermContent) → AreNumbers ps → terms_in_scope scope ps ≡ expression_of ps
written_same scope [] h = refl
written_same scope (p ∷ ps) h = ap Some (parts_same scope (p ∷ ps) h)

-- ---- printed operands have none

disp_given : (z : Bool) (d : ℕ) → AreNumbers (cond z [] (part_of d ∷ []))
disp_given true d = tt
disp_given false d = (tt, tt)

operand_given : (a : Arg) → AreNumbers (operand_for a).terms
operand_given (arg.Register w r) = tt
operand_given (arg.Place w m) = disp_given ((is_some m.base || is_some m.index) && (m.disp == 0)) m.disp
operand_given (arg.Address m) = disp_given ((is_some m.base || is_some m.index) && (m.disp == 0)) m.disp
operand_given (arg.Number n) = (tt, tt)
operand_given (arg.Short n) = (tt, tt)
operand_given arg.Cl = tt

parts_plain : (os : Operands) (s : OperandShape) (ps : List TermContent) (shapes : OperandShapes) → Plain os
    → AreNumbers ps → Plain (with_terms os s ps shapes)
parts_plain os (shape.Register w r) ps shapes h g = h
parts_plain os (shape.Memory w m) ps shapes h g = (h.0, g)
parts_plain os shape.Number ps shapes h g = (g, h.1)
parts_plain os shape.Near ps shapes h g = (g, h.1)
parts_plain os shape.Short ps shapes h g = (g, h.1)

shapes_plain : (os : Operands) (s : OperandShape) (ps : List TermContent) (x : Option OperandShapes) → Plain os
    → AreNumbers ps → PlainIf (option_map (with_terms os s ps) x)
shapes_plain os s ps None h g = tt
shapes_plain os s ps (Some shapes) h g = parts_plain os s ps shapes h g

plain_after : (x : Option Operands) (f : Operands → Option Operands) → PlainIf x
    → ((os : Operands) → Plain os → PlainIf (f os)) → PlainIf (by_operands x f)
plain_after None f h k = tt
plain_after (Some os) f h k = k os h

plain_all : (os : Operands) (args : List Arg) → Plain os → PlainIf (operands_for os args)
plain_all os [] h = h
plain_all os (a ∷ rest) h =
    plain_after (with_operand os (operand_for a)) (λ more. operands_for more rest)
    (shapes_plain os (operand_for a).shape (operand_for a).terms (with_shape os.shapes (operand_for a).shape) h
    (operand_given a))
    (λ more k. plain_all more rest k)

pub plain_operands : (start os : Operands) (args : List Arg) → Plain start
    → operands_for start args ≡ Some os → Plain os
plain_operands start os args h e = subst PlainIf e (plain_all start args h)
