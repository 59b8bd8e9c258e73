-- Sums of printed text have the values, placed, that they have where they are read.
use Rattle.std.proofs.Common.{◌≡◌, ℕ, Bool, true, false, cond, Option, Some, None, refl, ◌∙◌, ap}
use Rattle.std.specs.Prelude.{ℤ, pos, not, ◌||◌, ◌&&◌, is_some, option_map}
use Rattle.ia_insn.specs.declared.op.Op.{Op}
use Rattle.ia_insn.specs.declared.op.Insn.{Insn}
use Rattle.ia_insn.specs.Encoding.{fits_short, insn_bytes, insn_bytes_with}
use Rattle.ia_item.specs.declared.item.Field.{Field}
use Rattle.ia_item.specs.declared.item.Field.TheVariants as field
use Rattle.ia_item.specs.declared.item.Template.{Template}
use Rattle.ia_item.specs.declared.expression.ScopedExpression.{ScopedExpression}
use Rattle.ia_item.specs.Expressions.{Env, is_wide, any_unknown, any_huge}
use Rattle.ia_item.specs.Fields.{field_of, low_of, high_of, modulo_long, distance, within, stored_number, with_number}
use Rattle.ia_item.specs.Fields.{with_displacement}
use Rattle.ia_names.specs.Namings.{Naming}
use Rattle.ia_source.specs.Contents.{expression_content}
use Rattle.ia_resolve.specs.declared.place_fault.PlaceFault.TheVariants.{UnknownSymbol, Range, ShortJumpTooFar}
use Rattle.ia_resolve.specs.PlaceFaults.{first_of}
use Rattle.ia_resolve.specs.Values.{total, sum_fault, value_or_zero}
use Rattle.ia_resolve.specs.Items.{field_value, far_fault, field_fault, any_fault, wide, op_with_number}
use Rattle.ia_resolve.specs.Items.{op_with_displacement, resolved_insn, template_fault, code_bytes}
use Rattle.ia_round_trip.specs.Resolution.{takes, if_taken, field_number, by_op, sum_from as given_from}
use Rattle.ia_round_trip.specs.Resolution.{op_with_number as given_number, op_with_displacement as given_place}
use Rattle.ia_round_trip.specs.Resolution.{resolved_insn as known_number}
use Rattle.ia_round_trip.proofs.Expressions.{expressions_agree}

pub some_same : {A : Type 0} (x y : A) → Some x ≡ Some y → x ≡ y
some_same x y e = ap (or_else x) e
  where
    or_else : {A : Type 0} → A → Option A → A
    or_else d None = d
    or_else d (Some v) = v

both : (a b : Bool) → (a && b) ≡ true → (a ≡ true) × (b ≡ true)
both true b e = (refl, e)
both false b e = absurd cc

-- ---- expressions

-- an expression without symbols, in its range
sum_fine : (env : Env) (low high v : ℤ) (s : ScopedExpression) → any_unknown env s.terms.items ≡ false
    → any_huge s.terms.items ≡ false → total env s ≡ v
    → within low high v ≡ true → sum_fault env low high s ≡ None
unfolding sum_fault
sum_fine env low high v s unknown huge value in_range =
    ap (λ u. cond u (Some UnknownSymbol)
    (cond (any_huge s.terms.items || not (within low high (total env s))) (Some Range) None)) unknown
    ∙ ap (λ h. cond (h || not (within low high (total env s))) (Some Range) None) huge
    ∙ ap (λ x. cond (not (within low high x)) (Some Range) None) value
    ∙ ap (λ b. cond (not b) (Some Range) None) in_range

sum_taken : (env : Env) (low high v : ℤ) (s : ScopedExpression) → total env s ≡ v → sum_fault env low high s ≡ None
    → value_or_zero env low high s ≡ v
unfolding value_or_zero
sum_taken env low high v s value fine = ap (λ f. cond (is_some f) (pos 0) (total env s)) fine ∙ value

-- a value that a field takes
taken_fine : (f : Field) (at : ℕ) (v : ℤ) → takes f at v ≡ true
    → (within (low_of f) (high_of f) v ≡ true) × (far_fault f at v ≡ None)
taken_fine field.Byte at v e = (e, refl)
taken_fine field.Half at v e = (e, refl)
taken_fine field.Long at v e = (e, refl)
taken_fine (field.Near long) at v e = (e, refl)
taken_fine (field.Short long) at v e =
    let t = both (within (low_of (field.Short long)) (high_of (field.Short long)) v)
    (fits_short (distance at long (modulo_long v))) e in
    (t.0, ap (λ b. cond b None (Some ShortJumpTooFar)) t.1)

-- ---- fields

-- a field that is not wide has this number and no fault
abbrev Agrees : Env → ℕ → Field → ScopedExpression → ℕ → Type 0
Agrees env at f s n = (is_wide s ≡ false) × (field_value env at f s ≡ n) × (field_fault env at f s ≡ None)

field_agrees : (naming : Naming) (env : Env) (at : ℕ) (f : Field) (s : ScopedExpression) (n : ℕ)
    → field_number f at (expression_content naming s) ≡ Some n → Agrees env at f s n
field_agrees naming env at f s n e = by (given_from (pos 0) (expression_content naming s)) refl e
  where
    go : (v : ℤ) → given_from (pos 0) (expression_content naming s) ≡ Some v → (b : Bool) → takes f at v ≡ b
        → cond b (Some (stored_number f at v)) None ≡ Some n → Agrees env at f s n
    go v is false t h = absurd cc
    go v is true t h =
        let a = expressions_agree naming env (pos 0) v s.terms.items is in
        let fits = taken_fine f at v t in
        let fine = sum_fine env (low_of f) (high_of f) v s a.1 a.2 a.3 fits.0 in
        let value = sum_taken env (low_of f) (high_of f) v s a.3 fine in (
          a.0,
          ap (stored_number f at) value ∙ some_same (stored_number f at v) n h,
          ap (λ x. first_of x (far_fault f at (value_or_zero env (low_of f) (high_of f) s))) fine
              ∙ ap (far_fault f at) value ∙ fits.1,
        )

    by : (o : Option ℤ) → given_from (pos 0) (expression_content naming s) ≡ o → if_taken f at o ≡ Some n
        → Agrees env at f s n
    by None is h = absurd cc
    by (Some v) is h = go v is (takes f at v) refl h

-- ---- instructions

number_agrees : (naming : Naming) (env : Env) (at : ℕ) (s : Option ScopedExpression) (o p : Op)
    → given_number at (option_map (expression_content naming) s) o ≡ Some p
    → (wide s ≡ false) × (op_with_number env at s o ≡ p) × (any_fault env at (field_of o) s ≡ None)
number_agrees naming env at None o p e = (refl, some_same o p e, refl)
number_agrees naming env at (Some s) o p e = by (field_number (field_of o) at (expression_content naming s)) refl e
  where
    by : (x : Option ℕ) → field_number (field_of o) at (expression_content naming s) ≡ x
        → option_map (with_number o) x ≡ Some p
        → (is_wide s ≡ false) × (with_number o (field_value env at (field_of o) s) ≡ p)
        × (field_fault env at (field_of o) s ≡ None)
    by None is h = absurd cc
    by (Some n) is h =
        let a = field_agrees naming env at (field_of o) s n is in
        (a.0, ap (with_number o) a.1 ∙ some_same (with_number o n) p h, a.2)

place_agrees : (naming : Naming) (env : Env) (at : ℕ) (s : Option ScopedExpression) (o p : Op)
    → given_place at (option_map (expression_content naming) s) o ≡ Some p
    → (wide s ≡ false) × (op_with_displacement env at s o ≡ p) × (any_fault env at field.Long s ≡ None)
place_agrees naming env at None o p e = (refl, some_same o p e, refl)
place_agrees naming env at (Some s) o p e = by (field_number field.Long at (expression_content naming s)) refl e
  where
    by : (x : Option ℕ) → field_number field.Long at (expression_content naming s) ≡ x
        → option_map (with_displacement o) x ≡ Some p
        → (is_wide s ≡ false) × (with_displacement o (field_value env at field.Long s) ≡ p)
        × (field_fault env at field.Long s ≡ None)
    by None is h = absurd cc
    by (Some n) is h =
        let a = field_agrees naming env at field.Long s n is in
        (a.0, ap (with_displacement o) a.1 ∙ some_same (with_displacement o n) p h, a.2)

-- no field of it is wide, it is that instruction, and it has no fault
abbrev Fine : Env → ℕ → Template → Insn → Type 0
Fine env at t i = (wide t.number ≡ false) × (wide t.displacement ≡ false) × (resolved_insn env at t ≡ i)
    × (template_fault env at t ≡ None)

fine : (naming : Naming) (env : Env) (at : ℕ) (t : Template) (i : Insn)
    → known_number at t.insn (option_map (expression_content naming) t.number)
    (option_map (expression_content naming) t.displacement) ≡ Some i → Fine env at t i
unfolding known_number resolved_insn template_fault
fine naming env at t i e = by (given_number at (option_map (expression_content naming) t.number) t.insn.op) refl e
  where
    made : Op → Insn
    made o = record { lock = t.insn.lock; op = o }

    go : (p : Op) → given_number at (option_map (expression_content naming) t.number) t.insn.op ≡ Some p
        → (x : Option Op) → given_place at (option_map (expression_content naming) t.displacement) p ≡ x
        → option_map made x ≡ Some i → Fine env at t i
    go p n None d h = absurd cc
    go p n (Some q) d h =
        let a = number_agrees naming env at t.number t.insn.op p n in
        let b = place_agrees naming env at t.displacement p q d in (
          a.0,
          b.0,
          ap made (ap (op_with_displacement env at t.displacement) a.1 ∙ b.1) ∙ some_same (made q) i h,
          ap (λ f. first_of f (any_fault env at field.Long t.displacement)) a.2 ∙ b.2,
        )

    by : (x : Option Op) → given_number at (option_map (expression_content naming) t.number) t.insn.op ≡ x
        → option_map made (by_op x (given_place at (option_map (expression_content naming) t.displacement))) ≡ Some i
        → Fine env at t i
    by None n h = absurd cc
    by (Some p) n h = go p n (given_place at (option_map (expression_content naming) t.displacement) p) refl h

-- what is filled in to be an instruction has its bytes and no fault
pub code_agrees : (naming : Naming) (env : Env) (at : ℕ) (t : Template) (i : Insn)
    → known_number at t.insn (option_map (expression_content naming) t.number)
    (option_map (expression_content naming) t.displacement) ≡ Some i
    → (code_bytes env at t ≡ insn_bytes i) × (template_fault env at t ≡ None)
unfolding code_bytes
code_agrees naming env at t i e =
    let f = fine naming env at t i e in (
      ap (λ w. insn_bytes_with w (wide t.displacement) (resolved_insn env at t)) f.0
          ∙ ap (λ w. insn_bytes_with false w (resolved_insn env at t)) f.1 ∙ ap (insn_bytes_with false false) f.2,
      f.3,
    )
