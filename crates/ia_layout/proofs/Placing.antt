-- The passes of the assembler give a placement.
use Rattle.std.proofs.Common.{◌≡◌, ℕ, zero, suc, ◌+◌, ◌-◌, ◌*◌, ◌/◌, ◌%◌, ◌<◌, Bool, true, false, cond, IsTrue, List}
use Rattle.std.proofs.Common.{[], ◌∷◌, ◌++◌, Some, inl, inr, refl, sym, ◌∙◌, ap, subst, length, map, arith}
use Rattle.std.proofs.Common.{div-add-mod'}
use Rattle.std.proofs.lemmas.Nat.{mod_below, mod-mul-add}
use Rattle.std.proofs.Math.Nat.{mod_self, mod-eq_of_lt}
use Rattle.std.specs.Prelude.{flat_map, ◌||◌, ℤ, pos, replicate}
use Rattle.std.proofs.lemmas.Bool.{cases_Bool}
use Rattle.std.proofs.lemmas.List.{length-replicate}
use Rattle.indexmap.specs.IndexMap.{insert_all, insert_entry}
use Rattle.ia_item.specs.declared.symbol.Symbol.{Symbol}
use Rattle.ia_item.specs.declared.symbol.Definition.{Definition}
use Rattle.ia_item.specs.Names.{same_symbol}
use Rattle.ia_item.specs.Expressions.{Env}
use Rattle.ia_item.specs.Fits.{AllFit, FitsItem}
use Rattle.ia_item.specs.Fields.{modulo_long}
use Rattle.ia_item.specs.declared.item.Entry.{Entry}
use Rattle.ia_item.specs.declared.item.Section.{Section}
use Rattle.ia_item.specs.declared.item.Section.TheVariants.{Text as InText, Data as InData}
use Rattle.ia_item.specs.declared.item.Item.{Item}
use Rattle.ia_item.specs.declared.item.Item.TheVariants as item
use Rattle.ia_insn.specs.Spelling.{Spells}
use Rattle.ia_resolve.specs.Symbols.{known}
use Rattle.ia_resolve.specs.Items.{resolved_insn}
use Rattle.ia_resolve.proofs.Spelling.{code_spelt}
use Rattle.ia_layout.specs.Placement.{EntryPlace, LayoutState, at_in, bytes_at, definition, gap, in_section, item_bytes}
use Rattle.ia_layout.specs.Placement.{item_definition, next, pad, part_of, place_at, places, section_bytes}
use Rattle.ia_layout.proofs.Layouts.{insert_parts}
use Rattle.ia_layout.proofs.Powers.{power_some}
use Rattle.ia_layout.specs.Placements.{AreConsecutive, AreGiven, GivesItem, IsNextMultiple, PlacedItem, bytes_in}
use Rattle.ia_layout.specs.Placements.{is_defined, item_defines}
use Rattle.ia_layout.proofs.Lengths.{part_length, tail_length}

abbrev pub placed : Env → EntryPlace → PlacedItem
placed env p = record { entry = p.entry; at = p.at; bytes = item_bytes env p }

pub same_entries : (env : Env) (s : LayoutState) (es : List Entry)
    → map (λ (x : PlacedItem). x.entry) (map (placed env) (places s es)) ≡ es
same_entries env s [] = refl
same_entries env s (e ∷ es) = ap (λ l. e ∷ l) (same_entries env (next s e) es)

pub same_bytes : (part : Section) (env : Env) (ps : List EntryPlace)
    → flat_map (bytes_in part) (map (placed env) ps) ≡ section_bytes part env ps
same_bytes part env [] = refl
same_bytes part env (p ∷ ps) = ap (λ l. part_of part env p ++ l) (same_bytes part env ps)

-- ---- consecutive addresses

text_at : (x : Section) (s : LayoutState) → IsTrue (in_section InText x) → at_in x s ≡ s.text
text_at InText s h = refl
text_at InData s h = cc

tail_at : (x : Section) (s : LayoutState) → IsTrue (in_section InData x) → at_in x s ≡ s.tail
tail_at InText s h = cc
tail_at InData s h = refl

pub text_from : (env : Env) (s : LayoutState) (es : List Entry)
    → AreConsecutive InText s.text (map (placed env) (places s es))
text_from env s [] = tt
text_from env s (e ∷ es) = (
  text_at e.section s,
  subst (λ (n : ℕ). AreConsecutive InText n (map (placed env) (places (next s e) es))) (sym (part_length env s e))
      (text_from env (next s e) es),
)

pub tail_from : (env : Env) (s : LayoutState) (es : List Entry)
    → AreConsecutive InData s.tail (map (placed env) (places s es))
tail_from env s [] = tt
tail_from env s (e ∷ es) = (
  tail_at e.section s,
  subst (λ (n : ℕ). AreConsecutive InData n (map (placed env) (places (next s e) es))) (sym (tail_length env s e))
      (tail_from env (next s e) es),
)

pub next_multiple : (n at : ℕ) → 0 < n → IsNextMultiple n at (at + gap n at)
next_multiple n at some = by (at % n) refl
  where
    parts : at / n * n + at % n ≡ at
    parts = div-add-mod' at n

    below : at % n < n
    below = mod_below at n some

    by : (r : ℕ) → at % n ≡ r → IsNextMultiple n at (at + gap n at)
    by zero is =
        let rest : n - at % n ≡ n = omega (arith, is) in
        let none : gap n at ≡ 0 = ap (λ k. k % n) rest ∙ mod_self n in
        let whole : at + gap n at ≡ at / n * n + 0 = omega (arith, parts, is, none) in
        record {
          not_below = omega arith;
          near = omega (arith, none, some);
          multiple = ap (λ x. x % n) whole ∙ mod-mul-add (at / n) n 0 some;
        }
    by (suc r) is =
        let less : n - at % n < n = omega (arith, is, below) in
        let left : gap n at ≡ n - at % n = mod-eq_of_lt less in
        let whole : at + gap n at ≡ (at / n + 1) * n + 0 = omega (arith, parts, left, below) in
        record {
          not_below = omega arith;
          near = omega (arith, left, is, below);
          multiple = ap (λ x. x % n) whole ∙ mod-mul-add (at / n + 1) n 0 some;
        }

-- ---- what items give

true_same : (m n : Symbol) → same_symbol m n ≡ true → m.number ≡ n.number
true_same m n e = grind (arith, e)

same_true : (m n : Symbol) → m.number ≡ n.number → same_symbol m n ≡ true
same_true m n e = grind (arith, e)

known_new : (name : Symbol) (v : ℤ) (es : List (Symbol × ℤ)) → known (insert_entry same_symbol es name v) name ≡ Some v
known_new name v [] = rw (same_true name name refl) refl
known_new name v (e ∷ es) = elim (cases_Bool (same_symbol name e.0)) [
  | inl t ↦ rw (t, t) refl
  | inr f ↦ rw (f, f) (known_new name v es)
]

not_same : (name other third : Symbol) → same_symbol other third ≡ true → same_symbol name other ≡ false
    → same_symbol name third ≡ false
not_same name other third t f = elim (cases_Bool (same_symbol name third)) [
  | inl same ↦ let yes = same_true name other (true_same name third same ∙ sym (true_same other third t)) in absurd cc
  | inr apart ↦ apart
]

known_kept : (name other : Symbol) (v : ℤ) (es : List (Symbol × ℤ)) → same_symbol name other ≡ false
    → known (insert_entry same_symbol es other v) name ≡ known es name
known_kept name other v [] f = rw f refl
known_kept name other v (e ∷ es) f = elim (cases_Bool (same_symbol other e.0)) [
  | inl t ↦ let apart = not_same name other e.0 t f in rw (t, apart) refl
  | inr g ↦ rw g (ap (λ o. cond (same_symbol name e.0) (Some e.1) o) (known_kept name other v es f))
]

kept_item : (name : Symbol) (acc : List (Symbol × ℤ)) (at : ℕ) (v : ℤ) (i : Item) → item_defines name i ≡ false
    → known (insert_all same_symbol acc (item_definition at v i)) name ≡ known acc name
unfolding item_definition
kept_item name acc at v (item.Label d) f = known_kept name d.symbol (pos at) acc f
kept_item name acc at v (item.Equ d s) f = known_kept name d.symbol v acc f
kept_item name acc at v (item.Code t) f = refl
kept_item name acc at v (item.Byte s) f = refl
kept_item name acc at v (item.Text b) f = refl
kept_item name acc at v (item.Numbers b) f = refl
kept_item name acc at v (item.Long s) f = refl
kept_item name acc at v (item.Reserve s) f = refl
kept_item name acc at v (item.Align n) f = refl
kept_item name acc at v (item.Org n) f = refl

neither : (a b : Bool) → (a || b) ≡ false → (a ≡ false) × (b ≡ false)
neither false b e = (refl, e)
neither true b e = absurd cc

kept_all : (env : Env) (name : Symbol) (acc : List (Symbol × ℤ)) (ps : List EntryPlace)
    → is_defined name (map (placed env) ps) ≡ false
    → known (insert_all same_symbol acc (flat_map definition ps)) name ≡ known acc name
kept_all env name acc [] f = refl
kept_all env name acc (p ∷ ps) f =
    let both = neither (item_defines name p.entry.item) (is_defined name (map (placed env) ps)) f in
    ap (λ l. known l name) (insert_parts acc (definition p) (flat_map definition ps))
    ∙ kept_all env name (insert_all same_symbol acc (definition p)) ps both.1
    ∙ kept_item name acc p.at p.critical_value p.entry.item both.0

label_known : (env : Env) (acc : List (Symbol × ℤ)) (p : EntryPlace) (ps : List EntryPlace) (d : Definition)
    → p.entry.item ≡ item.Label d → is_defined d.symbol (map (placed env) ps) ≡ false →
    known (insert_all same_symbol acc (flat_map definition (p ∷ ps))) d.symbol ≡ Some (pos p.at)
unfolding item_definition
label_known env acc p ps d is f =
    ap (λ l. known l d.symbol) (insert_parts acc (definition p) (flat_map definition ps))
    ∙ kept_all env d.symbol (insert_all same_symbol acc (definition p)) ps f
    ∙ ap (λ i. known (insert_all same_symbol acc (item_definition p.at p.critical_value i)) d.symbol) is
    ∙ known_new d.symbol (pos p.at) acc

copies : (xs : List ℕ) (n b : ℕ) → xs ≡ replicate n b → xs ≡ replicate (length xs) b
copies xs n b e = e ∙ ap (λ k. replicate k b) (sym (ap length e ∙ length-replicate n b))

gives : (env : Env) (x : PlacedItem) (xs : List PlacedItem) (v : ℤ) (i : Item) → FitsItem i
    → x.bytes ≡ bytes_at env x.at v x.entry.section i →
    ((d : Definition) → i ≡ item.Label d → is_defined d.symbol xs ≡ false → env d.symbol ≡ Some (pos x.at))
    → GivesItem env x xs i
unfolding bytes_at
gives env x xs v (item.Label d) fits e label = (e, label d refl)
gives env x xs v (item.Equ d s) fits e label = e
gives env x xs v (item.Code t) fits e label =
    subst (λ (b : List ℕ). Spells b (resolved_insn env x.at t)) (sym e) (code_spelt env x.at t fits)
gives env x xs v (item.Byte s) fits e label = e
gives env x xs v (item.Text b) fits e label = e
gives env x xs v (item.Numbers b) fits e label = e
gives env x xs v (item.Long s) fits e label = e
gives env x xs v (item.Reserve s) fits e label = copies x.bytes (modulo_long v) 0 e
gives env x xs v (item.Align n) fits e label = (
  copies x.bytes (gap n x.at) (pad x.entry.section) e,
  subst (λ (k : ℕ). IsNextMultiple n x.at (x.at + k))
      (sym (ap length e ∙ length-replicate (gap n x.at) (pad x.entry.section)))
      (next_multiple n x.at (power_some n fits)),
)
gives env x xs v (item.Org n) fits e label = e

rest_fits : (e : Entry) (es : List Entry) → AllFit (e ∷ es) → AllFit es
rest_fits e es fits k d h = fits (suc k) d (omega arith)

pub all_given : (env : Env) (acc : List (Symbol × ℤ)) (s : LayoutState) (es : List Entry) → AllFit es
    → ((name : Symbol) → env name ≡ known (insert_all same_symbol acc (flat_map definition (places s es))) name) →
    AreGiven env (map (placed env) (places s es))
all_given env acc s [] fits same = tt
all_given env acc s (e ∷ es) fits same =
    let p = place_at s e in
    let behind = places (next s e) es in (
      gives env (placed env p) (map (placed env) behind) p.critical_value e.item (fits 0 e (omega arith)) refl
          (λ d is f. same d.symbol ∙ label_known env acc p behind d is f),
      all_given env (insert_all same_symbol acc (definition p)) (next s e) es (rest_fits e es fits)
          (λ name. same name ∙ ap (λ l. known l name) (insert_parts acc (definition p) (flat_map definition behind))),
    )
