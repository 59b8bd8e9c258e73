-- Bytes are as many as the sizes say, and a source without fault is short.
use Rattle.std.proofs.Common.{◌≡◌, ℕ, ◌+◌, ◌≤◌, ◌^◌, Bool, true, false, List, [], ◌∷◌, ◌⊎◌, inl, inr, Option, Some}
use Rattle.std.proofs.Common.{None, refl, sym, ◌∙◌, ap, subst, length, length-append, arith}
use Rattle.std.specs.Prelude.{ℤ, nat_lt, option_map}
use Rattle.std.proofs.lemmas.Bool.{ltb-false}
use Rattle.ia_item.specs.Expressions.{Env}
use Rattle.ia_item.specs.declared.item.Entry.{Entry}
use Rattle.ia_item.specs.declared.item.Section.{Section}
use Rattle.ia_item.specs.declared.item.Section.TheVariants.{Text as InText, Data as InData}
use Rattle.ia_item.specs.declared.item.Item.{Item}
use Rattle.ia_item.specs.declared.item.Item.TheVariants as item
use Rattle.ia_resolve.specs.declared.place_fault.PlaceFault.{PlaceFault}
use Rattle.ia_resolve.specs.declared.place_fault.PlaceFault.TheVariants.{Range}
use Rattle.ia_resolve.specs.Items.{field_fault, template_fault}
use Rattle.ia_item.specs.declared.item.Field.TheVariants as field
use Rattle.ia_resolve.specs.PlaceFaults.{first_of}
use Rattle.ia_layout.specs.Placement.{LayoutState, EntryPlace, critical_value, size_of, at_in, place_at, text_next}
use Rattle.ia_layout.specs.Placement.{next, places, after, part_of, section_bytes, end_fault, item_fault, place_fault}
use Rattle.ia_layout.specs.Placement.{fault_on, by_first, first_fault, base_of, text_end, tail_base, start, all_places}
use Rattle.ia_layout.specs.Placement.{values}
use Rattle.ia_layout.proofs.Lengths.{part_length}
use Rattle.ia_asm.specs.Assemblies.{code_of, fault_of}
use Rattle.ia_asm.proofs.FaultLemmas.{first_some}

-- the code ends where the addresses say
pub code_end : (env : Env) (s : LayoutState) (es : List Entry)
    → s.text + length (section_bytes InText env (places s es)) ≡ (after s es).text
code_end env s [] = omega arith
code_end env s (e ∷ es) =
    let here = part_length env s e in
    let later = code_end env (next s e) es in
    let terms = length-append (part_of InText env (place_at s e)) (section_bytes InText env (places (next s e) es)) in
    omega (arith, here, later, terms)

-- ---- the addresses of the code depend on no address of the data

same_next : (x : Section) (s t : LayoutState) (n : ℕ) (v : ℤ) (i : Item) → s.text ≡ t.text
    → text_next x s.text (size_of (at_in x s) v i) ≡ text_next x t.text (size_of (at_in x t) v i)
same_next InText s t n v i e = ap (λ u. u + size_of u v i) e
same_next InData s t n v i e = e

pub text_alone : (a : List _) (t m n : ℕ) (es : List Entry)
    → (after (record { above = a; text = t; tail = m }) es).text
    ≡ (after (record { above = a; text = t; tail = n }) es).text
text_alone a t m n [] = refl
text_alone a t m n (e ∷ es) =
    let s : LayoutState = record { above = a; text = t; tail = m } in
    let r : LayoutState = record { above = a; text = t; tail = n } in
    let x : LayoutState = next s e in
    let y : LayoutState = next r e in
    let same : x.text ≡ y.text = same_next e.section s r 0 (critical_value a e.item) e.item refl in
    ap (λ u. (after (record { above = x.above; text = u; tail = x.tail }) es).text) same
    ∙ text_alone y.above y.text x.tail y.tail es

-- ---- a source without fault

no_first : (g : Option PlaceFault) (l : ℕ) (more : Option PlaceFault) (later : Option (PlaceFault × ℕ))
    → by_first g l more later ≡ None → (g ≡ None) × (later ≡ None)
no_first None l more later e = (refl, e)
no_first (Some f) l more later e =
    let (h, is) = first_some f more in
    let wrong : Some (h, l) ≡ None = sym (ap (option_map (λ g. (g, l))) is) ∙ e in
    absurd cc

first_none : (a b : Option PlaceFault) → first_of a b ≡ None → b ≡ None
first_none None b e = e
first_none (Some f) b e =
    let (h, is) = first_some f b in
    let wrong : Some h ≡ None = sym is ∙ e in
    absurd cc

end_none : (base end : ℕ) → end_fault base end ≡ None → end ≤ base + 2 ^ 28
end_none base end e = by (nat_lt (base + 2 ^ 28) end) refl
  where
    by : (t : Bool) → nat_lt (base + 2 ^ 28) end ≡ t → end ≤ base + 2 ^ 28
    by true is =
        let some : end_fault base end ≡ Some Range = rw is refl in
        let wrong : Some Range ≡ None = sym some ∙ e in
        absurd cc
    by false is = ltb-false _ _ is

ends : (env : Env) (base : ℕ) (p : EntryPlace) (i : Item) → p.size ≡ size_of p.at p.critical_value i
    → item_fault env base p i ≡ None → (p.size ≡ 0) ⊎ (p.at + p.size ≤ base + 2 ^ 28)
unfolding item_fault size_of
ends env base p (item.Label n) s e = inl s
ends env base p (item.Equ n x) s e = inl s
ends env base p (item.Code t) s e =
    inr (end_none base (p.at + p.size) (first_none (template_fault env p.at t) (end_fault base (p.at + p.size)) e))
ends env base p (item.Byte x) s e = inr
    (end_none base (p.at + p.size) (first_none (field_fault env p.at field.Byte x) (end_fault base (p.at + p.size)) e))
ends env base p (item.Text b) s e = inr (end_none base (p.at + p.size) e)
ends env base p (item.Numbers b) s e = inr (end_none base (p.at + p.size) e)
ends env base p (item.Long x) s e = inr
    (end_none base (p.at + p.size) (first_none (field_fault env p.at field.Long x) (end_fault base (p.at + p.size)) e))
ends env base p (item.Reserve x) s e =
    inr (end_none base (p.at + p.size) (first_none p.fault (end_fault base (p.at + p.size)) e))
ends env base p (item.Align n) s e = inr (end_none base (p.at + p.size) e)
ends env base p (item.Org n) s e = inl s

next_short : (env : Env) (base : ℕ) (s : LayoutState) (e : Entry) → s.text ≤ base + 2 ^ 28
    → place_fault env base (place_at s e) ≡ None → (next s e).text ≤ base + 2 ^ 28
next_short env base s e h none = by e.section refl
  where
    p : EntryPlace
    p = place_at s e

    go : p.at ≡ s.text → (p.size ≡ 0) ⊎ (p.at + p.size ≤ base + 2 ^ 28) → s.text + p.size ≤ base + 2 ^ 28
    go at (inl zero) = omega (arith, zero, h)
    go at (inr short) = omega (arith, at, short)

    by : (x : Section) → e.section ≡ x → text_next e.section s.text p.size ≤ base + 2 ^ 28
    by InText is =
        let at : p.at ≡ s.text = ap (λ x. at_in x s) is in
        let size : size_of s.text (critical_value s.above e.item) e.item ≡ p.size =
        ap (λ a. size_of a (critical_value s.above e.item) e.item) (sym at) in
        rw is (subst (λ n. s.text + n ≤ base + 2 ^ 28) (sym size) (go at (ends env base p e.item refl none)))
    by InData is = rw is h

-- the code ends at most 2^28 bytes from the base
pub code_short : (env : Env) (base : ℕ) (s : LayoutState) (es : List Entry) → s.text ≤ base + 2 ^ 28
    → first_fault env base (places s es) ≡ None → (after s es).text ≤ base + 2 ^ 28
code_short env base s [] h e = h
code_short env base s (x ∷ es) h e =
    let (none, later) = no_first (place_fault env base (place_at s x)) x.line
    (fault_on x.line env base (places (next s x) es)) (first_fault env base (places (next s x) es)) e in
    code_short env base (next s x) es (next_short env base s x h none) later

-- ---- all entries

pub code_fits : (es : List Entry) → base_of es + length (code_of es) ≡ text_end es
code_fits es = code_end (values (all_places es)) (start (base_of es) (tail_base (text_end es))) es
    ∙ text_alone [] (base_of es) (tail_base (text_end es)) 0 es

pub code_near : (es : List Entry) → fault_of es ≡ None → text_end es ≤ base_of es + 2 ^ 28
code_near es e =
    let near = code_short (values (all_places es)) (base_of es) (start (base_of es) (tail_base (text_end es))) es
    (omega arith) e in
    omega (arith, near, text_alone [] (base_of es) (tail_base (text_end es)) 0 es)
