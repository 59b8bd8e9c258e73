-- Operands, one by one.
use Rattle.std.proofs.Common.{◌≡◌, List, ◌∷◌, Option, Some, None, refl, sym, ◌∙◌, ap}
use Rattle.std.specs.Prelude.{option_map}
use Rattle.ia_lex.specs.Tokens.{Lexeme}
use Rattle.ia_lex.specs.Terms.{TermContent}
use Rattle.ia_form.specs.declared.shape.OperandShape.{OperandShape}
use Rattle.ia_form.specs.declared.shape.OperandShape.TheVariants as shape
use Rattle.ia_form.specs.declared.shape.OperandShapes.{OperandShapes}
use Rattle.ia_source.specs.Operands.{Operand, Operands, operand_of, with_shape, with_terms, with_operand, by_operand}
use Rattle.ia_source.specs.Operands.{by_operands, operands_from, terms_placed, placed_by}

-- the shape of an operand whose terms are placed is its own, and the terms are where `with_terms` puts them
shape_is : (t : OperandShape) (n d ps : List TermContent) → (placed_by t n d ps).0 ≡ t
shape_is (shape.Register w r) n d ps = refl
shape_is (shape.Memory size m) n d ps = refl
shape_is shape.Number n d ps = refl
shape_is shape.Near n d ps = refl
shape_is shape.Short n d ps = refl

as_placed : (os : Operands) (t : OperandShape) (ps : List TermContent) (shapes : OperandShapes)
    → with_terms os t ps shapes ≡ record {
      shapes = shapes;
      number = (placed_by t os.number os.displacement ps).1;
      displacement = (placed_by t os.number os.displacement ps).2;
    }
as_placed os (shape.Register w r) ps shapes = refl
as_placed os (shape.Memory size m) ps shapes = refl
as_placed os shape.Number ps shapes = refl
as_placed os shape.Near ps shapes = refl
as_placed os shape.Short ps shapes = refl

-- the operands with one more, whose terms are placed
placed : (os : Operands) (o : Operand) (s : OperandShape) (ns ds : List TermContent) (shapes : OperandShapes)
    → (s, ns, ds) ≡ terms_placed os.number os.displacement o
    → Some shapes ≡ with_shape os.shapes s
    → with_operand os o ≡ Some (record { shapes = shapes; number = ns; displacement = ds })
placed os o s ns ds shapes e h =
    let here : s ≡ o.shape = ap (λ t. t.0) e ∙ shape_is o.shape os.number os.displacement o.terms in
    ap (option_map (with_terms os o.shape o.terms)) (ap (with_shape os.shapes) (sym here) ∙ sym h)
    ∙ ap Some (as_placed os o.shape o.terms shapes ∙ ap (λ (t : OperandShape × List TermContent × List TermContent).
    record { shapes = shapes; number = t.1; displacement = t.2 }) (sym e))

-- one more operand is taken in
pub one_more : (os : Operands) (p : List Lexeme) (ps all : List (List Lexeme)) (s : OperandShape)
    (ns ds : List TermContent) (shapes : OperandShapes) → all ≡ p ∷ ps
    → Some (s, ns, ds) ≡ option_map (terms_placed os.number os.displacement) (operand_of p)
    → Some shapes ≡ with_shape os.shapes s
    → operands_from os all ≡ operands_from (record { shapes = shapes; number = ns; displacement = ds }) ps
one_more os p ps all s ns ds shapes a e h = ap (operands_from os) a ∙ by_read (operand_of p) refl
  where
    the : Option (OperandShape × List TermContent × List TermContent)
        → OperandShape × List TermContent × List TermContent
    the None = (s, ns, ds)
    the (Some t) = t

    by_read : (r : Option Operand) → operand_of p ≡ r
        → operands_from os (p ∷ ps) ≡ operands_from (record { shapes = shapes; number = ns; displacement = ds }) ps
    by_read None q =
        let bad : Some (s, ns, ds) ≡ None = e ∙ ap (option_map (terms_placed os.number os.displacement)) q in
        absurd (cc)
    by_read (Some o) q =
        let is : (s, ns, ds) ≡ terms_placed os.number os.displacement o =
        ap the (e ∙ ap (option_map (terms_placed os.number os.displacement)) q) in
        ap (λ r. by_operand os r (λ more. operands_from more ps)) q
        ∙ ap (λ r. by_operands r (λ more. operands_from more ps)) (placed os o s ns ds shapes is h)

-- what is no operand, and one too many
pub unread : (os : Operands) (p : List Lexeme) (ps all : List (List Lexeme)) → all ≡ p ∷ ps
    → None ≡ option_map (terms_placed os.number os.displacement) (operand_of p) → operands_from os all ≡ None
unread os p ps all a e = ap (operands_from os) a ∙ by_read (operand_of p) refl
  where
    by_read : (r : Option Operand) → operand_of p ≡ r → operands_from os (p ∷ ps) ≡ None
    by_read None q = ap (λ r. by_operand os r (λ more. operands_from more ps)) q
    by_read (Some o) q =
        let bad : None ≡ Some (terms_placed os.number os.displacement o) =
        e ∙ ap (option_map (terms_placed os.number os.displacement)) q in
        absurd (cc)

pub no_room : (os : Operands) (p : List Lexeme) (ps all : List (List Lexeme)) (s : OperandShape)
    (ns ds : List TermContent) → all ≡ p ∷ ps
    → Some (s, ns, ds) ≡ option_map (terms_placed os.number os.displacement) (operand_of p)
    → None ≡ with_shape os.shapes s → operands_from os all ≡ None
no_room os p ps all s ns ds a e h = ap (operands_from os) a ∙ by_read (operand_of p) refl
  where
    the : Option (OperandShape × List TermContent × List TermContent)
        → OperandShape × List TermContent × List TermContent
    the None = (s, ns, ds)
    the (Some t) = t

    by_read : (r : Option Operand) → operand_of p ≡ r → operands_from os (p ∷ ps) ≡ None
    by_read None q = ap (λ r. by_operand os r (λ more. operands_from more ps)) q
    by_read (Some o) q =
        let is : (s, ns, ds) ≡ terms_placed os.number os.displacement o =
        ap the (e ∙ ap (option_map (terms_placed os.number os.displacement)) q) in
        let here : s ≡ o.shape = ap (λ t. t.0) is ∙ shape_is o.shape os.number os.displacement o.terms in
        ap (λ r. by_operand os r (λ more. operands_from more ps)) q
        ∙ ap (λ r. by_operands (option_map (with_terms os o.shape o.terms) r) (λ more. operands_from more ps))
        (ap (with_shape os.shapes) (sym here) ∙ sym h)

-- operands that are read one by one
pub ruleset operand_steps = (one_more, unread, no_room)
