-- The bytes of an instruction spell it.
use Rattle.std.proofs.Common.{◌≡◌, ℕ, ◌-◌, ◌^◌, Bool, true, false, cond, Option, Some, None, refl, ◌∙◌, ap, IsTrue}
use Rattle.std.proofs.Common.{arith}
use Rattle.std.specs.Prelude.{ℤ, pos, negsuc, ◌&&◌, ◌||◌, not, is_some, nat_le}
use Rattle.std.proofs.lemmas.Bool.{leb-true}
use Rattle.ia_insn.specs.declared.op.Op.{Op}
use Rattle.ia_insn.specs.Encoding.{encodable, is_encodable, fits_short}
use Rattle.ia_insn.specs.Spelling.{Spells, lockable}
use Rattle.ia_insn.proofs.Spelt.{insn_spelt}
use Rattle.ia_item.specs.declared.item.Field.{Field}
use Rattle.ia_item.specs.declared.item.Field.TheVariants as field
use Rattle.ia_item.specs.declared.item.Template.{Template}
use Rattle.ia_item.specs.declared.expression.ScopedExpression.{ScopedExpression}
use Rattle.ia_item.specs.Expressions.{Env, any_unknown, any_huge}
use Rattle.ia_item.specs.Fields.{field_of, low_of, high_of, within, stored_number, distance, modulo_long, Holds}
use Rattle.ia_item.specs.Fits.{Fits}
use Rattle.ia_resolve.specs.declared.place_fault.PlaceFault.TheVariants.{UnknownSymbol, Range}
use Rattle.ia_resolve.specs.Values.{sum_fault, value_or_zero, total}
use Rattle.ia_resolve.specs.Items.{field_value, op_with_number, op_with_displacement, resolved_insn, wide, code_bytes}
use Rattle.ia_resolve.proofs.FieldLemmas.{number_encodable, number_lockable, place_encodable, place_lockable}
use Rattle.ia_resolve.proofs.FieldLemmas.{insn_encodable}

second : (a b : Bool) → (a && b) ≡ true → b ≡ true
second true b e = e
second false b e = absurd cc

-- a value that a field takes is held by it
held : (f : Field) (at : ℕ) (v : ℤ) → within (low_of f) (high_of f) v ≡ true → Holds f (stored_number f at v)
held field.Byte at (pos n) e = omega (arith, leb-true n 255 e)
held field.Byte at (negsuc n) e = omega arith
held field.Half at (pos n) e = omega (arith, leb-true n 65535 (second (nat_le 0 n) (nat_le n 65535) e))
held field.Half at (negsuc n) e = absurd cc
held field.Long at (pos n) e = omega (arith, leb-true n (2 ^ 32 - 1) e)
held field.Long at (negsuc n) e = omega arith
held (field.Near l) at v e = omega arith
held (field.Short l) at v e = by (fits_short d) refl
  where
    d : ℕ
    d = distance at l (modulo_long v)

    by : (t : Bool) → fits_short d ≡ t → fits_short (cond (fits_short d) d 0) ≡ true
    by true is = ap (λ t. fits_short (cond t d 0)) is ∙ is
    by false is = ap (λ t. fits_short (cond t d 0)) is

-- what an expression counts as is in its range
taken_in : (env : Env) (low high : ℤ) (s : ScopedExpression) → within low high (pos 0) ≡ true
    → within low high (value_or_zero env low high s) ≡ true
unfolding value_or_zero sum_fault
taken_in env low high s zero =
    by (any_unknown env s.terms.items) (any_huge s.terms.items) (within low high (total env s)) refl
  where
    by : (u h w : Bool) → within low high (total env s) ≡ w
        → within low high
        (cond (is_some (cond u (Some UnknownSymbol) (cond (h || not w) (Some Range) None))) (pos 0) (total env s))
        ≡ true
    by true h w e = zero
    by false true w e = zero
    by false false true e = e
    by false false false e = zero

zero_in : (f : Field) → within (low_of f) (high_of f) (pos 0) ≡ true
zero_in field.Byte = refl
zero_in field.Half = refl
zero_in field.Long = refl
zero_in (field.Near l) = refl
zero_in (field.Short l) = refl

value_held : (env : Env) (at : ℕ) (f : Field) (s : ScopedExpression) → Holds f (field_value env at f s)
value_held env at f s =
    held f at (value_or_zero env (low_of f) (high_of f) s) (taken_in env (low_of f) (high_of f) s (zero_in f))

number_fits : (env : Env) (at : ℕ) (s : Option ScopedExpression) (o : Op) → IsTrue (encodable o)
    → IsTrue (encodable (op_with_number env at s o))
number_fits env at None o e = e
number_fits env at (Some s) o e =
    number_encodable o (field_value env at (field_of o) s) (value_held env at (field_of o) s) e

number_locks : (env : Env) (at : ℕ) (s : Option ScopedExpression) (o : Op)
    → lockable (op_with_number env at s o) ≡ lockable o
number_locks env at None o = refl
number_locks env at (Some s) o = number_lockable o (field_value env at (field_of o) s)

place_fits : (env : Env) (at : ℕ) (s : Option ScopedExpression) (o : Op) → IsTrue (encodable o)
    → IsTrue (encodable (op_with_displacement env at s o))
place_fits env at None o e = e
place_fits env at (Some s) o e = place_encodable o (field_value env at field.Long s) (value_held env at field.Long s) e

place_locks : (env : Env) (at : ℕ) (s : Option ScopedExpression) (o : Op)
    → lockable (op_with_displacement env at s o) ≡ lockable o
place_locks env at None o = refl
place_locks env at (Some s) o = place_lockable o (field_value env at field.Long s)

filled_fits : (env : Env) (at : ℕ) (t : Template) → Fits t → IsTrue (is_encodable (resolved_insn env at t))
unfolding resolved_insn
filled_fits env at t fits =
    let o = op_with_number env at t.number t.insn.op in
    insn_encodable t.insn.lock t.insn.op (op_with_displacement env at t.displacement o) fits.0
    (λ e. place_fits env at t.displacement o (number_fits env at t.number t.insn.op e))
    (place_locks env at t.displacement o ∙ number_locks env at t.number t.insn.op)

pub code_spelt : (env : Env) (at : ℕ) (t : Template) → Fits t → Spells (code_bytes env at t) (resolved_insn env at t)
unfolding code_bytes
code_spelt env at t fits =
    insn_spelt (wide t.number) (wide t.displacement) (resolved_insn env at t) (filled_fits env at t fits)
