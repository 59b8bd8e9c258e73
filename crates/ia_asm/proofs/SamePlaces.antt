-- Places of items that say the same.
use Rattle.std.proofs.Common.{◌≡◌, ℕ, cond, List, [], ◌∷◌, ◌++◌, Option, None, refl, sym, ◌∙◌, ap, map}
use Rattle.std.specs.Prelude.{ℤ, flat_map, ◌==◌}
use Rattle.indexmap.specs.IndexMap.{insert_all}
use Rattle.ia_item.specs.declared.symbol.Symbol.{Symbol as SymbolOf}
use Rattle.ia_item.specs.declared.item.Entry.{Entry}
use Rattle.ia_item.specs.declared.item.Section.{Section}
use Rattle.ia_item.specs.declared.item.Section.TheVariants.{Text as InText, Data as InData}
use Rattle.ia_item.specs.Expressions.{Env}
use Rattle.ia_item.specs.Names.{same_symbol}
use Rattle.ia_names.specs.Namings.{Naming, IsOneToOne}
use Rattle.ia_source.specs.Contents.{EntryContent, entry_content}
use Rattle.ia_resolve.specs.declared.place_fault.PlaceFault.{PlaceFault}
use Rattle.ia_resolve.specs.PlaceFaults.{first_of}
use Rattle.ia_resolve.specs.Symbols.{known}
use Rattle.ia_layout.specs.Placement.{LayoutState, EntryPlace, critical_value, size_of, at_in, place_at, text_next}
use Rattle.ia_layout.specs.Placement.{tail_next, above_next, next, places, after, base_or, base_of, item_definition}
use Rattle.ia_layout.specs.Placement.{definition, bytes_at, item_bytes, in_section, part_of, section_bytes, place_fault}
use Rattle.ia_layout.specs.Placement.{fault_on, by_first, first_fault}
use Rattle.ia_layout.proofs.Layouts.{insert_parts}
use Rattle.ia_asm.proofs.SameSums.{SameEnv}
use Rattle.ia_asm.proofs.SameItems.{SameItem, by_number, same_item}

-- ---- states and places

pub record SameState (m n : Naming) (s t : LayoutState) : Type 0 where
  pub above : SameEnv m n (known s.above) (known t.above)
  pub text : s.text ≡ t.text
  pub tail : s.tail ≡ t.tail

pub record SamePlace (m n : Naming) (p q : EntryPlace) : Type 0 where
  pub item : SameItem m n p.entry.item q.entry.item
  pub line : p.entry.line ≡ q.entry.line
  pub section : p.entry.section ≡ q.entry.section
  pub at : p.at ≡ q.at
  pub size : p.size ≡ q.size
  pub value : p.critical_value ≡ q.critical_value
  pub fault : p.fault ≡ q.fault

same_at : (m n : Naming) (s t : LayoutState) → SameState m n s t → (x : Section) → at_in x s ≡ at_in x t
same_at m n s t h InText = h.text
same_at m n s t h InData = h.tail

abbrev pub SameContent : Naming → Naming → Entry → Entry → Type 0
SameContent m n e f = entry_content (by_number m) e ≡ entry_content (by_number n) f

pub same_place : (m n : Naming) → IsOneToOne m → IsOneToOne n → (s t : LayoutState) → SameState m n s t
    → (e f : Entry) → SameContent m n e f → SamePlace m n (place_at s e) (place_at t f)
same_place m n one two s t h e f is =
    let item : SameItem m n e.item f.item =
    same_item m n one two e.item f.item (ap (λ (c : EntryContent). c.item) is) in
    let section : e.section ≡ f.section = ap (λ (c : EntryContent). c.section) is in
    let at : at_in e.section s ≡ at_in f.section t = ap (λ x. at_in x s) section ∙ same_at m n s t h f.section in
    let value : critical_value s.above e.item ≡ critical_value t.above f.item = item.value s.above t.above h.above in
    record {
      item = item;
      line = ap (λ (c : EntryContent). c.line) is;
      section = section;
      at = at;
      size = ap (λ a. size_of a (critical_value s.above e.item) e.item) at
          ∙ ap (λ v. size_of (at_in f.section t) v e.item) value
          ∙ item.size (at_in f.section t) (critical_value t.above f.item);
      value = value;
      fault = item.critical s.above t.above h.above;
    }

pub same_next : (m n : Naming) → IsOneToOne m → IsOneToOne n → (s t : LayoutState) → SameState m n s t
    → (e f : Entry) → SameContent m n e f → SameState m n (next s e) (next t f)
same_next m n one two s t h e f is =
    let p = same_place m n one two s t h e f is in
    let size = (place_at s e).size in
    record {
      above = λ a b ab.
          p.item.above s.above t.above (critical_value s.above e.item) h.above a b ab
          ∙ ap (λ v. known (above_next t.above v f.item) b) p.value;
      text = ap (λ x. text_next x s.text size) p.section ∙ ap (λ a. text_next f.section a size) h.text
          ∙ ap (text_next f.section t.text) p.size;
      tail = ap (λ x. tail_next x s.tail size) p.section ∙ ap (λ a. tail_next f.section a size) h.tail
          ∙ ap (tail_next f.section t.tail) p.size;
    }

-- ---- all of them

abbrev pub SamePlaces : Naming → Naming → List EntryPlace → List EntryPlace → Type 0
SamePlaces m n [] [] = Unit {0}
SamePlaces m n (p ∷ ps) (q ∷ qs) = SamePlace m n p q × SamePlaces m n ps qs
SamePlaces m n _ _ = ⊥

abbrev pub SameContents : Naming → Naming → List Entry → List Entry → Type 0
SameContents m n es fs = map (entry_content (by_number m)) es ≡ map (entry_content (by_number n)) fs

abbrev first_or : EntryContent → List EntryContent → EntryContent
first_or d [] = d
first_or d (c ∷ cs) = c

abbrev rest_of : List EntryContent → List EntryContent
rest_of [] = []
rest_of (c ∷ cs) = cs

first_same : (m n : Naming) (e f : Entry) (es fs : List Entry) → SameContents m n (e ∷ es) (f ∷ fs)
    → SameContent m n e f
first_same m n e f es fs is = ap (first_or (entry_content (by_number m) e)) is

rest_same : (m n : Naming) (e f : Entry) (es fs : List Entry) → SameContents m n (e ∷ es) (f ∷ fs)
    → SameContents m n es fs
rest_same m n e f es fs is = ap rest_of is

pub same_places : (m n : Naming) → IsOneToOne m → IsOneToOne n → (s t : LayoutState) → SameState m n s t
    → (es fs : List Entry) → SameContents m n es fs → SamePlaces m n (places s es) (places t fs)
same_places m n one two s t h [] [] is = tt
same_places m n one two s t h [] (f ∷ fs) is = absurd cc
same_places m n one two s t h (e ∷ es) [] is = absurd cc
same_places m n one two s t h (e ∷ es) (f ∷ fs) is =
    let first = first_same m n e f es fs is in (
      same_place m n one two s t h e f first,
      same_places m n one two (next s e) (next t f) (same_next m n one two s t h e f first) es fs
          (rest_same m n e f es fs is),
    )

pub same_after : (m n : Naming) → IsOneToOne m → IsOneToOne n → (s t : LayoutState) → SameState m n s t
    → (es fs : List Entry) → SameContents m n es fs → SameState m n (after s es) (after t fs)
same_after m n one two s t h [] [] is = h
same_after m n one two s t h [] (f ∷ fs) is = absurd cc
same_after m n one two s t h (e ∷ es) [] is = absurd cc
same_after m n one two s t h (e ∷ es) (f ∷ fs) is =
    same_after m n one two (next s e) (next t f) (same_next m n one two s t h e f (first_same m n e f es fs is)) es fs
    (rest_same m n e f es fs is)

pub same_base : (m n : Naming) → IsOneToOne m → IsOneToOne n → (es fs : List Entry) → SameContents m n es fs
    → base_of es ≡ base_of fs
same_base m n one two [] [] is = refl
same_base m n one two [] (f ∷ fs) is = absurd cc
same_base m n one two (e ∷ es) [] is = absurd cc
same_base m n one two (e ∷ es) (f ∷ fs) is =
    let item = same_item m n one two e.item f.item (ap (λ (c : EntryContent). c.item) (first_same m n e f es fs is)) in
    item.base (base_of es) ∙ ap (base_or f.item) (same_base m n one two es fs (rest_same m n e f es fs is))

-- ---- what they give

pub same_symbols : (m n : Naming) (a b : List (SymbolOf × ℤ)) (ps qs : List EntryPlace)
    → SameEnv m n (known a) (known b) → SamePlaces m n ps qs
    → SameEnv m n (known (insert_all same_symbol a (flat_map definition ps)))
    (known (insert_all same_symbol b (flat_map definition qs)))
same_symbols m n a b [] [] h r = h
same_symbols m n a b [] (q ∷ qs) h r = absurd r
same_symbols m n a b (p ∷ ps) [] h r = absurd r
same_symbols m n a b (p ∷ ps) (q ∷ qs) h r = λ s t st.
    ap (λ l. known l s) (insert_parts a (definition p) (flat_map definition ps))
    ∙ same_symbols m n (insert_all same_symbol a (definition p)) (insert_all same_symbol b (definition q)) ps
    qs here r.1 s t st
    ∙ sym (ap (λ l. known l t) (insert_parts b (definition q) (flat_map definition qs)))
  where
    here : SameEnv m n (known (insert_all same_symbol a (definition p)))
        (known (insert_all same_symbol b (definition q)))
    here s t st =
        r.0.item.defined a b p.at p.critical_value h s t st
        ∙ ap (λ w. known (insert_all same_symbol b (item_definition w p.critical_value q.entry.item)) t) r.0.at
        ∙ ap (λ v. known (insert_all same_symbol b (item_definition q.at v q.entry.item)) t) r.0.value

same_part : (m n : Naming) (x : Section) (e f : Env) → SameEnv m n e f → (p q : EntryPlace) → SamePlace m n p q
    → part_of x e p ≡ part_of x f q
same_part m n x e f h p q r =
    ap (λ z. cond (in_section x z) (item_bytes e p) []) r.section
    ∙ ap (λ (b : List ℕ). cond (in_section x q.entry.section) b []) bytes
  where
    bytes : item_bytes e p ≡ item_bytes f q
    bytes =
        ap (λ a. bytes_at e a p.critical_value p.entry.section p.entry.item) r.at
        ∙ ap (λ v. bytes_at e q.at v p.entry.section p.entry.item) r.value
        ∙ ap (λ z. bytes_at e q.at q.critical_value z p.entry.item) r.section
        ∙ r.item.bytes e f h q.at q.critical_value q.entry.section

pub same_bytes : (m n : Naming) (x : Section) (e f : Env) → SameEnv m n e f
    → (ps qs : List EntryPlace) → SamePlaces m n ps qs → section_bytes x e ps ≡ section_bytes x f qs
same_bytes m n x e f h [] [] r = refl
same_bytes m n x e f h [] (q ∷ qs) r = absurd r
same_bytes m n x e f h (p ∷ ps) [] r = absurd r
same_bytes m n x e f h (p ∷ ps) (q ∷ qs) r =
    ap (λ b. b ++ section_bytes x e ps) (same_part m n x e f h p q r.0)
    ∙ ap (λ b. part_of x f q ++ b) (same_bytes m n x e f h ps qs r.1)

same_told : (m n : Naming) (e f : Env) → SameEnv m n e f → (base : ℕ) (p q : EntryPlace) → SamePlace m n p q
    → place_fault e base p ≡ place_fault f base q
same_told m n e f h base p q r = r.item.fault e f h base p q r.at r.size r.fault

same_on : (m n : Naming) (line : ℕ) (e f : Env) → SameEnv m n e f
    → (base : ℕ) (ps qs : List EntryPlace) → SamePlaces m n ps qs → fault_on line e base ps ≡ fault_on line f base qs
same_on m n line e f h base [] [] r = refl
same_on m n line e f h base [] (q ∷ qs) r = absurd r
same_on m n line e f h base (p ∷ ps) [] r = absurd r
same_on m n line e f h base (p ∷ ps) (q ∷ qs) r =
    ap (λ l. first_of (cond (l == line) (place_fault e base p) None) (fault_on line e base ps)) r.0.line
    ∙ ap (λ (x : Option PlaceFault). first_of (cond (q.entry.line == line) x None) (fault_on line e base ps))
    (same_told m n e f h base p q r.0)
    ∙ ap (first_of (cond (q.entry.line == line) (place_fault f base q) None)) (same_on m n line e f h base ps qs r.1)

pub same_first : (m n : Naming) (e f : Env) → SameEnv m n e f
    → (base : ℕ) (ps qs : List EntryPlace) → SamePlaces m n ps qs → first_fault e base ps ≡ first_fault f base qs
same_first m n e f h base [] [] r = refl
same_first m n e f h base [] (q ∷ qs) r = absurd r
same_first m n e f h base (p ∷ ps) [] r = absurd r
same_first m n e f h base (p ∷ ps) (q ∷ qs) r =
    ap (λ (x : Option PlaceFault). by_first x p.entry.line (fault_on p.entry.line e base ps) (first_fault e base ps))
    (same_told m n e f h base p q r.0)
    ∙ ap (λ l. by_first (place_fault f base q) l (fault_on l e base ps) (first_fault e base ps)) r.0.line
    ∙ ap (λ (x : Option PlaceFault). by_first (place_fault f base q) q.entry.line x (first_fault e base ps))
    (same_on m n q.entry.line e f h base ps qs r.1)
    ∙ ap (by_first (place_fault f base q) q.entry.line (fault_on q.entry.line f base qs))
    (same_first m n e f h base ps qs r.1)
