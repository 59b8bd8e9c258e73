-- Items of symbols that have other numbers and the same names.
use Rattle.std.proofs.Common.{◌≡◌, ℕ, ◌+◌, ◌-◌, ◌^◌, true, false, cond, List, [], ◌∷◌, Option, Some, None, refl, sym}
use Rattle.std.proofs.Common.{◌∙◌, ap, length, arith}
use Rattle.std.proofs.lemmas.Bool.{cases_Bool}
use Rattle.std.proofs.Common.{inl, inr, replicate}
use Rattle.std.specs.Prelude.{ℤ, pos}
use Rattle.indexmap.specs.IndexMap.{insert_entry, insert_all}
use Rattle.ia_word.specs.Bytes.{long_bytes}
use Rattle.ia_item.specs.declared.symbol.Symbol.{Symbol as SymbolOf}
use Rattle.ia_item.specs.declared.item.Field.TheVariants as field
use Rattle.ia_item.specs.declared.item.Item.{Item}
use Rattle.ia_item.specs.declared.item.Item.TheVariants as item
use Rattle.ia_item.specs.declared.item.Section.{Section}
use Rattle.ia_item.specs.Expressions.{Env}
use Rattle.ia_item.specs.Fields.{low_of, high_of}
use Rattle.ia_item.specs.Names.{same_symbol}
use Rattle.ia_insn.specs.declared.op.Insn.{Insn}
use Rattle.ia_lex.specs.Terms.{TermContent}
use Rattle.ia_names.specs.Namings.{Naming, IsOneToOne}
use Rattle.ia_source.specs.Contents.{ItemContent, Label, Equ, Code, Byte, Text, Numbers, Long, Reserve, Align, Org}
use Rattle.ia_source.specs.Contents.{Reading, expression_content, item_content}
use Rattle.ia_resolve.specs.declared.place_fault.PlaceFault.{PlaceFault}
use Rattle.ia_resolve.specs.PlaceFaults.{first_of}
use Rattle.ia_resolve.specs.Symbols.{known}
use Rattle.ia_resolve.specs.Items.{field_fault, template_fault}
use Rattle.ia_layout.specs.Placement.{EntryPlace, nowhere, critical_value, critical_fault, gap, size_of, above_next}
use Rattle.ia_layout.specs.Placement.{item_definition, bytes_at, pad, end_fault, org_fault, org_value, item_fault}
use Rattle.ia_layout.specs.Placement.{base_or}
use Rattle.ia_asm.proofs.SameSums.{SameEnv, SameCode, same_fault, same_value, same_field, same_field_fault, same_code}
use Rattle.ia_asm.proofs.SameSums.{same_code_fault}

-- symbols by their numbers' names
abbrev pub by_number : Naming → Reading
by_number m = record { naming = m; written = false }

-- ---- one more symbol

same_number : (s t : SymbolOf) → s.number ≡ t.number → same_symbol s t ≡ true
same_number s t e = grind (arith, e)

number_same : (s t : SymbolOf) → same_symbol s t ≡ true → s.number ≡ t.number
number_same s t e = grind (arith, e)

other_number : (s t : SymbolOf) → same_symbol s t ≡ false → s.number ≡ t.number → ⊥
other_number s t f e = let yes = same_number s t e in absurd cc

known_of : (s d : SymbolOf) (v : ℤ) (es : List (SymbolOf × ℤ))
    → known (insert_entry same_symbol es d v) s ≡ cond (same_symbol s d) (Some v) (known es s)
known_of s d v [] = refl
known_of s d v (e ∷ es) = elim (cases_Bool (same_symbol d e.0)) [
  | inl there ↦ elim (cases_Bool (same_symbol s d)) [
    | inl same ↦
        let too = same_number s e.0 (number_same s d same ∙ number_same d e.0 there) in rw (there, same, too) refl
    | inr other ↦ elim (cases_Bool (same_symbol s e.0)) [
      | inl wrong ↦ absurd (other_number s d other (number_same s e.0 wrong ∙ sym (number_same d e.0 there)))
      | inr apart ↦ rw (there, other, apart) refl
    ]
  ]
  | inr later ↦ elim (cases_Bool (same_symbol s e.0)) [
    | inl here ↦ elim (cases_Bool (same_symbol s d)) [
      | inl wrong ↦ absurd (other_number d e.0 later (sym (number_same s d wrong) ∙ number_same s e.0 here))
      | inr other ↦ rw (later, here, other) refl
    ]
    | inr apart ↦ rw (later, apart) (known_of s d v es)
  ]
]

both_same : (m n : Naming) → IsOneToOne m → IsOneToOne n → (s d t c : SymbolOf) → m s.number ≡ n t.number
    → m d.number ≡ n c.number → same_symbol s d ≡ same_symbol t c
both_same m n one two s d t c st dc = elim (cases_Bool (same_symbol s d)) [
  | inl same ↦ same ∙ sym (same_number t c (two t.number c.number (sym st ∙ ap m (number_same s d same) ∙ dc)))
  | inr other ↦ elim (cases_Bool (same_symbol t c)) [
    | inl wrong ↦ absurd (other_number s d other (one s.number d.number (st ∙ ap n (number_same t c wrong) ∙ sym dc)))
    | inr apart ↦ other ∙ sym apart
  ]
]

pub same_inserted : (m n : Naming) → IsOneToOne m → IsOneToOne n
    → (a b : List (SymbolOf × ℤ)) (d c : SymbolOf) (v : ℤ) → SameEnv m n (known a) (known b) → m d.number ≡ n c.number
    → SameEnv m n (known (insert_entry same_symbol a d v)) (known (insert_entry same_symbol b c v))
same_inserted m n one two a b d c v h dc s t st =
    known_of s d v a
    ∙ ap (λ x. cond x (Some v) (known a s)) (both_same m n one two s d t c st dc)
    ∙ ap (λ (o : Option ℤ). cond (same_symbol t c) (Some v) o) (h s t st)
    ∙ sym (known_of t c v b)

-- ---- items

-- what items give that say the same
pub record SameItem (m n : Naming) (x y : Item) : Type 0 where
  pub size : (at : ℕ) (v : ℤ) → size_of at v x ≡ size_of at v y
  pub value : (a b : List (SymbolOf × ℤ)) → SameEnv m n (known a) (known b) → critical_value a x ≡ critical_value b y
  pub critical : (a b : List (SymbolOf × ℤ)) → SameEnv m n (known a) (known b) → critical_fault a x ≡ critical_fault b y
  pub bytes : (e f : Env) → SameEnv m n e f → (at : ℕ) (v : ℤ) (s : Section) → bytes_at e at v s x ≡ bytes_at f at v s y
  pub fault : (e f : Env) → SameEnv m n e f → (base : ℕ) (p q : EntryPlace) → p.at ≡ q.at → p.size ≡ q.size
      → p.fault ≡ q.fault → item_fault e base p x ≡ item_fault f base q y
  pub above : (a b : List (SymbolOf × ℤ)) (v : ℤ) → SameEnv m n (known a) (known b)
      → SameEnv m n (known (above_next a v x)) (known (above_next b v y))
  pub defined : (a b : List (SymbolOf × ℤ)) (at : ℕ) (v : ℤ) → SameEnv m n (known a) (known b)
      → SameEnv m n (known (insert_all same_symbol a (item_definition at v x)))
      (known (insert_all same_symbol b (item_definition at v y)))
  pub base : (other : ℕ) → base_or x other ≡ base_or y other

abbrev name_in : List ℕ → ItemContent → List ℕ
name_in d (Label w) = w
name_in d (Equ w ts) = w
name_in d _ = d

abbrev terms_in : List TermContent → ItemContent → List TermContent
terms_in d (Equ w ts) = ts
terms_in d (Byte ts) = ts
terms_in d (Long ts) = ts
terms_in d (Reserve ts) = ts
terms_in d _ = d

abbrev bytes_in : List ℕ → ItemContent → List ℕ
bytes_in d (Text b) = b
bytes_in d (Numbers b) = b
bytes_in d _ = d

abbrev multiple_in : ℕ → ItemContent → ℕ
multiple_in d (Align k) = k
multiple_in d _ = d

abbrev base_in : Option ℕ → ItemContent → Option ℕ
base_in d (Org k) = k
base_in d _ = d

abbrev insn_in : Insn → ItemContent → Insn
insn_in d (Code i a b) = i
insn_in d _ = d

abbrev number_in : Option (List TermContent) → ItemContent → Option (List TermContent)
number_in d (Code i a b) = a
number_in d _ = d

abbrev place_in : Option (List TermContent) → ItemContent → Option (List TermContent)
place_in d (Code i a b) = b
place_in d _ = d

same_nowhere : (m n : Naming) → SameEnv m n nowhere nowhere
same_nowhere m n s t e = refl

same_end : (base : ℕ) (p q : EntryPlace) → p.at ≡ q.at → p.size ≡ q.size
    → end_fault base (p.at + p.size) ≡ end_fault base (q.at + q.size)
same_end base p q at size = ap (λ a. end_fault base (a + p.size)) at ∙ ap (λ z. end_fault base (q.at + z)) size

pub same_item : (m n : Naming) → IsOneToOne m → IsOneToOne n
    → (x y : Item) → item_content (by_number m) x ≡ item_content (by_number n) y → SameItem m n x y
unfolding size_of critical_value critical_fault bytes_at item_fault above_next item_definition base_or
same_item m n one two (item.Label d) (item.Label c) is =
    let k : m d.symbol.number ≡ n c.symbol.number = ap (name_in []) is in
    record {
      size = λ at v. refl;
      value = λ a b h. refl;
      critical = λ a b h. refl;
      bytes = λ e f h at v s. refl;
      fault = λ e f h base p q at size told. refl;
      above = λ a b v h. h;
      defined = λ a b at v h. same_inserted m n one two a b d.symbol c.symbol (pos at) h k;
      base = λ other. refl;
    }
same_item m n one two (item.Equ d s) (item.Equ c t) is =
    let k : m d.symbol.number ≡ n c.symbol.number = ap (name_in []) is in
    let z : expression_content m s ≡ expression_content n t = ap (terms_in []) is in
    record {
      size = λ at v. refl;
      value = λ a b h. same_value m n (known a) (known b) h (low_of field.Long) (high_of field.Long) s t z;
      critical = λ a b h. same_fault m n (known a) (known b) h (low_of field.Long) (high_of field.Long) s t z;
      bytes = λ e f h at v s. refl;
      fault = λ e f h base p q at size told. told;
      above = λ a b v h. same_inserted m n one two a b d.symbol c.symbol v h k;
      defined = λ a b at v h. same_inserted m n one two a b d.symbol c.symbol v h k;
      base = λ other. refl;
    }
same_item m n one two (item.Code t) (item.Code u) is =
    let c : SameCode m n t u =
    record { insn = ap (insn_in t.insn) is; number = ap (number_in None) is; place = ap (place_in None) is } in
    record {
      size = λ at v. ap length (same_code m n nowhere nowhere (same_nowhere m n) at t u c);
      value = λ a b h. refl;
      critical = λ a b h. refl;
      bytes = λ e f h at v s. same_code m n e f h at t u c;
      fault = λ e f h base p q at size told.
          ap (λ a. first_of (template_fault e a t) (end_fault base (p.at + p.size))) at
          ∙ ap (λ (g : Option PlaceFault). first_of g (end_fault base (p.at + p.size)))
          (same_code_fault m n e f h q.at t u c)
          ∙ ap (first_of (template_fault f q.at u)) (same_end base p q at size);
      above = λ a b v h. h;
      defined = λ a b at v h. h;
      base = λ other. refl;
    }
same_item m n one two (item.Byte s) (item.Byte t) is =
    let z : expression_content m s ≡ expression_content n t = ap (terms_in []) is in
    record {
      size = λ at v. refl;
      value = λ a b h. refl;
      critical = λ a b h. refl;
      bytes = λ e f h at v w. ap (λ b. b ∷ []) (same_field m n e f h at field.Byte s t z);
      fault = λ e f h base p q at size told.
          ap (λ a. first_of (field_fault e a field.Byte s) (end_fault base (p.at + p.size))) at
          ∙ ap (λ (g : Option PlaceFault). first_of g (end_fault base (p.at + p.size)))
          (same_field_fault m n e f h q.at field.Byte s t z)
          ∙ ap (first_of (field_fault f q.at field.Byte t)) (same_end base p q at size);
      above = λ a b v h. h;
      defined = λ a b at v h. h;
      base = λ other. refl;
    }
same_item m n one two (item.Text b) (item.Text c) is =
    let k : b.now ≡ c.now = ap (bytes_in []) is in
    record {
      size = λ at v. ap length k;
      value = λ a b h. refl;
      critical = λ a b h. refl;
      bytes = λ e f h at v s. k;
      fault = λ e f h base p q at size told. same_end base p q at size;
      above = λ a b v h. h;
      defined = λ a b at v h. h;
      base = λ other. refl;
    }
same_item m n one two (item.Numbers b) (item.Numbers c) is =
    let k : b.items ≡ c.items = ap (bytes_in []) is in
    record {
      size = λ at v. ap length k;
      value = λ a b h. refl;
      critical = λ a b h. refl;
      bytes = λ e f h at v s. k;
      fault = λ e f h base p q at size told. same_end base p q at size;
      above = λ a b v h. h;
      defined = λ a b at v h. h;
      base = λ other. refl;
    }
same_item m n one two (item.Long s) (item.Long t) is =
    let z : expression_content m s ≡ expression_content n t = ap (terms_in []) is in
    record {
      size = λ at v. refl;
      value = λ a b h. refl;
      critical = λ a b h. refl;
      bytes = λ e f h at v w. ap long_bytes (same_field m n e f h at field.Long s t z);
      fault = λ e f h base p q at size told.
          ap (λ a. first_of (field_fault e a field.Long s) (end_fault base (p.at + p.size))) at
          ∙ ap (λ (g : Option PlaceFault). first_of g (end_fault base (p.at + p.size)))
          (same_field_fault m n e f h q.at field.Long s t z)
          ∙ ap (first_of (field_fault f q.at field.Long t)) (same_end base p q at size);
      above = λ a b v h. h;
      defined = λ a b at v h. h;
      base = λ other. refl;
    }
same_item m n one two (item.Reserve s) (item.Reserve t) is =
    let z : expression_content m s ≡ expression_content n t = ap (terms_in []) is in
    record {
      size = λ at v. refl;
      value = λ a b h. same_value m n (known a) (known b) h (pos 0) (pos (2 ^ 32 - 1)) s t z;
      critical = λ a b h. same_fault m n (known a) (known b) h (pos 0) (pos (2 ^ 32 - 1)) s t z;
      bytes = λ e f h at v s. refl;
      fault = λ e f h base p q at size told.
          ap (λ (g : Option PlaceFault). first_of g (end_fault base (p.at + p.size))) told
          ∙ ap (first_of q.fault) (same_end base p q at size);
      above = λ a b v h. h;
      defined = λ a b at v h. h;
      base = λ other. refl;
    }
same_item m n one two (item.Align k) (item.Align l) is =
    let e : k ≡ l = ap (multiple_in k) is in
    record {
      size = λ at v. ap (λ j. gap j at) e;
      value = λ a b h. refl;
      critical = λ a b h. refl;
      bytes = λ f g h at v s. ap (λ j. replicate (gap j at) (pad s)) e;
      fault = λ e f h base p q at size told. same_end base p q at size;
      above = λ a b v h. h;
      defined = λ a b at v h. h;
      base = λ other. refl;
    }
same_item m n one two (item.Org k) (item.Org l) is =
    let e : k ≡ l = ap (base_in k) is in
    record {
      size = λ at v. refl;
      value = λ a b h. refl;
      critical = λ a b h. refl;
      bytes = λ e f h at v s. refl;
      fault = λ f g h base p q at size told. ap org_fault e;
      above = λ a b v h. h;
      defined = λ a b at v h. h;
      base = λ other. ap org_value e;
    }
same_item m n one two (item.Label _) (item.Equ _ _) is = absurd cc
same_item m n one two (item.Label _) (item.Code _) is = absurd cc
same_item m n one two (item.Label _) (item.Byte _) is = absurd cc
same_item m n one two (item.Label _) (item.Text _) is = absurd cc
same_item m n one two (item.Label _) (item.Numbers _) is = absurd cc
same_item m n one two (item.Label _) (item.Long _) is = absurd cc
same_item m n one two (item.Label _) (item.Reserve _) is = absurd cc
same_item m n one two (item.Label _) (item.Align _) is = absurd cc
same_item m n one two (item.Label _) (item.Org _) is = absurd cc
same_item m n one two (item.Equ _ _) (item.Label _) is = absurd cc
same_item m n one two (item.Equ _ _) (item.Code _) is = absurd cc
same_item m n one two (item.Equ _ _) (item.Byte _) is = absurd cc
same_item m n one two (item.Equ _ _) (item.Text _) is = absurd cc
same_item m n one two (item.Equ _ _) (item.Numbers _) is = absurd cc
same_item m n one two (item.Equ _ _) (item.Long _) is = absurd cc
same_item m n one two (item.Equ _ _) (item.Reserve _) is = absurd cc
same_item m n one two (item.Equ _ _) (item.Align _) is = absurd cc
same_item m n one two (item.Equ _ _) (item.Org _) is = absurd cc
same_item m n one two (item.Code _) (item.Label _) is = absurd cc
same_item m n one two (item.Code _) (item.Equ _ _) is = absurd cc
same_item m n one two (item.Code _) (item.Byte _) is = absurd cc
same_item m n one two (item.Code _) (item.Text _) is = absurd cc
same_item m n one two (item.Code _) (item.Numbers _) is = absurd cc
same_item m n one two (item.Code _) (item.Long _) is = absurd cc
same_item m n one two (item.Code _) (item.Reserve _) is = absurd cc
same_item m n one two (item.Code _) (item.Align _) is = absurd cc
same_item m n one two (item.Code _) (item.Org _) is = absurd cc
same_item m n one two (item.Byte _) (item.Label _) is = absurd cc
same_item m n one two (item.Byte _) (item.Equ _ _) is = absurd cc
same_item m n one two (item.Byte _) (item.Code _) is = absurd cc
same_item m n one two (item.Byte _) (item.Text _) is = absurd cc
same_item m n one two (item.Byte _) (item.Numbers _) is = absurd cc
same_item m n one two (item.Byte _) (item.Long _) is = absurd cc
same_item m n one two (item.Byte _) (item.Reserve _) is = absurd cc
same_item m n one two (item.Byte _) (item.Align _) is = absurd cc
same_item m n one two (item.Byte _) (item.Org _) is = absurd cc
same_item m n one two (item.Text _) (item.Label _) is = absurd cc
same_item m n one two (item.Text _) (item.Equ _ _) is = absurd cc
same_item m n one two (item.Text _) (item.Code _) is = absurd cc
same_item m n one two (item.Text _) (item.Byte _) is = absurd cc
same_item m n one two (item.Text _) (item.Numbers _) is = absurd cc
same_item m n one two (item.Text _) (item.Long _) is = absurd cc
same_item m n one two (item.Text _) (item.Reserve _) is = absurd cc
same_item m n one two (item.Text _) (item.Align _) is = absurd cc
same_item m n one two (item.Text _) (item.Org _) is = absurd cc
same_item m n one two (item.Numbers _) (item.Label _) is = absurd cc
same_item m n one two (item.Numbers _) (item.Equ _ _) is = absurd cc
same_item m n one two (item.Numbers _) (item.Code _) is = absurd cc
same_item m n one two (item.Numbers _) (item.Byte _) is = absurd cc
same_item m n one two (item.Numbers _) (item.Text _) is = absurd cc
same_item m n one two (item.Numbers _) (item.Long _) is = absurd cc
same_item m n one two (item.Numbers _) (item.Reserve _) is = absurd cc
same_item m n one two (item.Numbers _) (item.Align _) is = absurd cc
same_item m n one two (item.Numbers _) (item.Org _) is = absurd cc
same_item m n one two (item.Long _) (item.Label _) is = absurd cc
same_item m n one two (item.Long _) (item.Equ _ _) is = absurd cc
same_item m n one two (item.Long _) (item.Code _) is = absurd cc
same_item m n one two (item.Long _) (item.Byte _) is = absurd cc
same_item m n one two (item.Long _) (item.Text _) is = absurd cc
same_item m n one two (item.Long _) (item.Numbers _) is = absurd cc
same_item m n one two (item.Long _) (item.Reserve _) is = absurd cc
same_item m n one two (item.Long _) (item.Align _) is = absurd cc
same_item m n one two (item.Long _) (item.Org _) is = absurd cc
same_item m n one two (item.Reserve _) (item.Label _) is = absurd cc
same_item m n one two (item.Reserve _) (item.Equ _ _) is = absurd cc
same_item m n one two (item.Reserve _) (item.Code _) is = absurd cc
same_item m n one two (item.Reserve _) (item.Byte _) is = absurd cc
same_item m n one two (item.Reserve _) (item.Text _) is = absurd cc
same_item m n one two (item.Reserve _) (item.Numbers _) is = absurd cc
same_item m n one two (item.Reserve _) (item.Long _) is = absurd cc
same_item m n one two (item.Reserve _) (item.Align _) is = absurd cc
same_item m n one two (item.Reserve _) (item.Org _) is = absurd cc
same_item m n one two (item.Align _) (item.Label _) is = absurd cc
same_item m n one two (item.Align _) (item.Equ _ _) is = absurd cc
same_item m n one two (item.Align _) (item.Code _) is = absurd cc
same_item m n one two (item.Align _) (item.Byte _) is = absurd cc
same_item m n one two (item.Align _) (item.Text _) is = absurd cc
same_item m n one two (item.Align _) (item.Numbers _) is = absurd cc
same_item m n one two (item.Align _) (item.Long _) is = absurd cc
same_item m n one two (item.Align _) (item.Reserve _) is = absurd cc
same_item m n one two (item.Align _) (item.Org _) is = absurd cc
same_item m n one two (item.Org _) (item.Label _) is = absurd cc
same_item m n one two (item.Org _) (item.Equ _ _) is = absurd cc
same_item m n one two (item.Org _) (item.Code _) is = absurd cc
same_item m n one two (item.Org _) (item.Byte _) is = absurd cc
same_item m n one two (item.Org _) (item.Text _) is = absurd cc
same_item m n one two (item.Org _) (item.Numbers _) is = absurd cc
same_item m n one two (item.Org _) (item.Long _) is = absurd cc
same_item m n one two (item.Org _) (item.Reserve _) is = absurd cc
same_item m n one two (item.Org _) (item.Align _) is = absurd cc
