-- Sums of symbols that have other numbers and the same names.
use Rattle.std.proofs.Common.{◌≡◌, ℕ, Bool, cond, not, List, [], ◌∷◌, Option, Some, None, refl, ◌∙◌, ap, map}
use Rattle.std.specs.Prelude.{ℤ, pos, ◌+ℤ◌, ◌-ℤ◌, ◌||◌, is_some, option_map}
use Rattle.ia_insn.specs.declared.op.Insn.{Insn}
use Rattle.ia_insn.specs.declared.op.Op.{Op}
use Rattle.ia_insn.specs.Encoding.{insn_bytes_with}
use Rattle.ia_item.specs.declared.symbol.Symbol.{Symbol as SymbolOf}
use Rattle.ia_item.specs.declared.item.Field.{Field}
use Rattle.ia_item.specs.declared.item.Field.TheVariants as field
use Rattle.ia_item.specs.declared.item.Template.{Template}
use Rattle.ia_item.specs.declared.expression.ScopedAtom.{ScopedAtom}
use Rattle.ia_item.specs.declared.expression.ScopedAtom.TheVariants as atom
use Rattle.ia_item.specs.declared.expression.ScopedTerm.{ScopedTerm}
use Rattle.ia_item.specs.declared.expression.ScopedExpression.{ScopedExpression}
use Rattle.ia_item.specs.Expressions.{Env, is_symbol, any_symbol, is_unknown, any_unknown, is_huge, any_huge, or_zero}
use Rattle.ia_item.specs.Expressions.{value_in, sum_from}
use Rattle.ia_item.specs.Fields.{field_of, low_of, high_of, within, stored_number, with_number, with_displacement}
use Rattle.ia_lex.specs.Terms.{AtomContent, NumberAtom, SymbolAtom, TermContent}
use Rattle.ia_names.specs.Namings.{Naming}
use Rattle.ia_source.specs.Contents.{scoped_atom_content, scoped_term_content, expression_content}
use Rattle.ia_resolve.specs.declared.place_fault.PlaceFault.{PlaceFault}
use Rattle.ia_resolve.specs.declared.place_fault.PlaceFault.TheVariants.{UnknownSymbol, Range}
use Rattle.ia_resolve.specs.PlaceFaults.{first_of}
use Rattle.ia_resolve.specs.Values.{total, sum_fault, value_or_zero}
use Rattle.ia_resolve.specs.Items.{field_value, far_fault, field_fault, op_with_number, op_with_displacement}
use Rattle.ia_resolve.specs.Items.{resolved_insn, any_fault, template_fault, wide, code_bytes}

-- symbols of one name have one value
abbrev pub SameEnv : Naming → Naming → Env → Env → Type 0
SameEnv m n e f = (s t : SymbolOf) → m s.number ≡ n t.number → e s ≡ f t

record SameAtom (e f : Env) (a b : ScopedAtom) : Type 0 where
  pub value : value_in e a ≡ value_in f b
  pub unknown : is_unknown e a ≡ is_unknown f b
  pub huge : is_huge a ≡ is_huge b
  pub symbol : is_symbol a ≡ is_symbol b

abbrev number_or : ℕ → AtomContent → ℕ
number_or d (NumberAtom (Some n)) = n
number_or d _ = d

abbrev name_or : List ℕ → AtomContent → List ℕ
name_or d (SymbolAtom name) = name
name_or d _ = d

same_atom : (m n : Naming) (e f : Env) → SameEnv m n e f
    → (a b : ScopedAtom) → scoped_atom_content m a ≡ scoped_atom_content n b → SameAtom e f a b
same_atom m n e f h (atom.Number x) (atom.Number y) is =
    let k : x ≡ y = ap (number_or x) is in
    record { value = ap pos k; unknown = refl; huge = refl; symbol = refl }
same_atom m n e f h atom.Huge atom.Huge is = record { value = refl; unknown = refl; huge = refl; symbol = refl }
same_atom m n e f h (atom.Number x) atom.Huge is = absurd cc
same_atom m n e f h atom.Huge (atom.Number y) is = absurd cc
same_atom m n e f h (atom.Number x) (atom.Symbol t) is = absurd cc
same_atom m n e f h atom.Huge (atom.Symbol t) is = absurd cc
same_atom m n e f h (atom.Symbol s) (atom.Number y) is = absurd cc
same_atom m n e f h (atom.Symbol s) atom.Huge is = absurd cc
same_atom m n e f h (atom.Symbol s) (atom.Symbol t) is =
    let v : e s ≡ f t = h s t (ap (name_or []) is) in
    record { value = ap or_zero v; unknown = ap (λ (o : Option ℤ). not (is_some o)) v; huge = refl; symbol = refl }

record SameTerms (e f : Env) (ps qs : List ScopedTerm) : Type 0 where
  pub value : (v : ℤ) → sum_from e v ps ≡ sum_from f v qs
  pub unknown : any_unknown e ps ≡ any_unknown f qs
  pub huge : any_huge ps ≡ any_huge qs
  pub symbol : any_symbol ps ≡ any_symbol qs

abbrev first_or : TermContent → List TermContent → TermContent
first_or d [] = d
first_or d (t ∷ ts) = t

abbrev rest_of : List TermContent → List TermContent
rest_of [] = []
rest_of (t ∷ ts) = ts

same_terms : (m n : Naming) (e f : Env) → SameEnv m n e f
    → (ps qs : List ScopedTerm) → map (scoped_term_content m) ps ≡ map (scoped_term_content n) qs → SameTerms e f ps qs
same_terms m n e f h [] [] is = record { value = λ v. refl; unknown = refl; huge = refl; symbol = refl }
same_terms m n e f h [] (q ∷ qs) is = absurd cc
same_terms m n e f h (p ∷ ps) [] is = absurd cc
same_terms m n e f h (p ∷ ps) (q ∷ qs) is =
    let first : scoped_term_content m p ≡ scoped_term_content n q = ap (first_or (scoped_term_content m p)) is in
    let sign : p.negative ≡ q.negative = ap (λ (t : TermContent). t.negative) first in
    let a = same_atom m n e f h p.atom q.atom (ap (λ (t : TermContent). t.atom) first) in
    let more = same_terms m n e f h ps qs (ap rest_of is) in
    record {
      value = λ v.
          ap (λ (x : ℤ). sum_from e (cond p.negative (v -ℤ x) (v +ℤ x)) ps) a.value
          ∙ ap (λ (b : Bool). sum_from e (cond b (v -ℤ value_in f q.atom) (v +ℤ value_in f q.atom)) ps) sign
          ∙ more.value (cond q.negative (v -ℤ value_in f q.atom) (v +ℤ value_in f q.atom));
      unknown = ap (λ b. b || any_unknown e ps) a.unknown ∙ ap (λ b. is_unknown f q.atom || b) more.unknown;
      huge = ap (λ b. b || any_huge ps) a.huge ∙ ap (λ b. is_huge q.atom || b) more.huge;
      symbol = ap (λ b. b || any_symbol ps) a.symbol ∙ ap (λ b. is_symbol q.atom || b) more.symbol;
    }

-- ---- expressions

pub same_fault : (m n : Naming) (e f : Env) → SameEnv m n e f → (low high : ℤ) (s t : ScopedExpression)
    → expression_content m s ≡ expression_content n t → sum_fault e low high s ≡ sum_fault f low high t
unfolding sum_fault
same_fault m n e f h low high s t is =
    let r = same_terms m n e f h s.terms.items t.terms.items is in
    ap (λ u. cond u (Some UnknownSymbol)
    (cond (any_huge s.terms.items || not (within low high (total e s))) (Some Range) None)) r.unknown
    ∙ ap (λ g. cond (any_unknown f t.terms.items) (Some UnknownSymbol)
    (cond (g || not (within low high (total e s))) (Some Range) None)) r.huge
    ∙ ap (λ x. cond (any_unknown f t.terms.items) (Some UnknownSymbol)
    (cond (any_huge t.terms.items || not (within low high x)) (Some Range) None)) (r.value (pos 0))

pub same_value : (m n : Naming) (e f : Env) → SameEnv m n e f → (low high : ℤ) (s t : ScopedExpression)
    → expression_content m s ≡ expression_content n t → value_or_zero e low high s ≡ value_or_zero f low high t
unfolding value_or_zero
same_value m n e f h low high s t is =
    let r = same_terms m n e f h s.terms.items t.terms.items is in
    ap (λ (x : Option PlaceFault). cond (is_some x) (pos 0) (total e s)) (same_fault m n e f h low high s t is)
    ∙ ap (λ (v : ℤ). cond (is_some (sum_fault f low high t)) (pos 0) v) (r.value (pos 0))

pub same_field : (m n : Naming) (e f : Env) → SameEnv m n e f → (at : ℕ) (x : Field) (s t : ScopedExpression)
    → expression_content m s ≡ expression_content n t → field_value e at x s ≡ field_value f at x t
same_field m n e f h at x s t is = ap (stored_number x at) (same_value m n e f h (low_of x) (high_of x) s t is)

pub same_field_fault : (m n : Naming) (e f : Env) → SameEnv m n e f → (at : ℕ) (x : Field) (s t : ScopedExpression)
    → expression_content m s ≡ expression_content n t → field_fault e at x s ≡ field_fault f at x t
same_field_fault m n e f h at x s t is =
    ap (λ (a : Option PlaceFault). first_of a (far_fault x at (value_or_zero e (low_of x) (high_of x) s)))
    (same_fault m n e f h (low_of x) (high_of x) s t is)
    ∙ ap (λ (v : ℤ). first_of (sum_fault f (low_of x) (high_of x) t) (far_fault x at v))
    (same_value m n e f h (low_of x) (high_of x) s t is)

-- ---- instructions

record SameAny (e f : Env) (s t : Option ScopedExpression) : Type 0 where
  pub number : (at : ℕ) (o : Op) → op_with_number e at s o ≡ op_with_number f at t o
  pub place : (at : ℕ) (o : Op) → op_with_displacement e at s o ≡ op_with_displacement f at t o
  pub fault : (at : ℕ) (x : Field) → any_fault e at x s ≡ any_fault f at x t
  pub wide : wide s ≡ wide t

abbrev some_or : List TermContent → Option (List TermContent) → List TermContent
some_or d None = d
some_or d (Some ts) = ts

same_any : (m n : Naming) (e f : Env) → SameEnv m n e f → (s t : Option ScopedExpression)
    → option_map (expression_content m) s ≡ option_map (expression_content n) t → SameAny e f s t
same_any m n e f h None None is =
    record { number = λ at o. refl; place = λ at o. refl; fault = λ at x. refl; wide = refl }
same_any m n e f h None (Some t) is = absurd cc
same_any m n e f h (Some s) None is = absurd cc
same_any m n e f h (Some s) (Some t) is =
    let k : expression_content m s ≡ expression_content n t = ap (some_or []) is in
    let r = same_terms m n e f h s.terms.items t.terms.items k in
    record {
      number = λ at o. ap (with_number o) (same_field m n e f h at (field_of o) s t k);
      place = λ at o. ap (with_displacement o) (same_field m n e f h at field.Long s t k);
      fault = λ at x. same_field_fault m n e f h at x s t k;
      wide = r.symbol;
    }

-- instructions whose expressions say the same
pub record SameCode (m n : Naming) (t u : Template) : Type 0 where
  pub insn : t.insn ≡ u.insn
  pub number : option_map (expression_content m) t.number ≡ option_map (expression_content n) u.number
  pub place : option_map (expression_content m) t.displacement ≡ option_map (expression_content n) u.displacement

pub same_code : (m n : Naming) (e f : Env) → SameEnv m n e f → (at : ℕ) (t u : Template) → SameCode m n t u
    → code_bytes e at t ≡ code_bytes f at u
unfolding code_bytes resolved_insn
same_code m n e f h at t u c =
    let a = same_any m n e f h t.number u.number c.number in
    let b = same_any m n e f h t.displacement u.displacement c.place in
    let made : Op → Insn = λ o. record { lock = u.insn.lock; op = o } in
    ap (λ w. insn_bytes_with w (wide t.displacement) (resolved_insn e at t)) a.wide
    ∙ ap (λ w. insn_bytes_with (wide u.number) w (resolved_insn e at t)) b.wide
    ∙ ap (λ (i : Insn). insn_bytes_with (wide u.number) (wide u.displacement) (record {
      lock = i.lock;
      op = op_with_displacement e at t.displacement (op_with_number e at t.number i.op);
    })) c.insn
    ∙ ap (λ (o : Op). insn_bytes_with (wide u.number) (wide u.displacement)
    (made (op_with_displacement e at t.displacement o))) (a.number at u.insn.op)
    ∙ ap (λ (o : Op). insn_bytes_with (wide u.number) (wide u.displacement) (made o))
    (b.place at (op_with_number f at u.number u.insn.op))

pub same_code_fault : (m n : Naming) (e f : Env) → SameEnv m n e f → (at : ℕ) (t u : Template) → SameCode m n t u
    → template_fault e at t ≡ template_fault f at u
unfolding template_fault
same_code_fault m n e f h at t u c =
    let a = same_any m n e f h t.number u.number c.number in
    let b = same_any m n e f h t.displacement u.displacement c.place in
    ap (λ (i : Insn). first_of (any_fault e at (field_of i.op) t.number) (any_fault e at field.Long t.displacement))
    c.insn
    ∙ ap (λ (x : Option PlaceFault). first_of x (any_fault e at field.Long t.displacement))
    (a.fault at (field_of u.insn.op))
    ∙ ap (λ (x : Option PlaceFault). first_of (any_fault f at (field_of u.insn.op) u.number) x) (b.fault at field.Long)
