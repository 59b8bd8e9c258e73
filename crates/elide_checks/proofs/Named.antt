-- The names of the `equ`s of a source.
use Rattle.std.proofs.Common.{◌≡◌, ℕ, Bool, true, false, List, [], ◌∷◌, ◌++◌, ◌||◌, ◌∙◌, ap, sym, refl, map}
use Rattle.std.proofs.Math.Bool.{or_assoc}
use Rattle.std.specs.List.{list_any}
use Rattle.std.specs.Str.{bytes_eq}
use Rattle.ia_asm.proofs.Readings.{asks_for}
use Rattle.ia_item.specs.declared.item.Entry.{Entry}
use Rattle.ia_item.specs.declared.item.Item.{Item}
use Rattle.ia_item.specs.declared.item.Item.TheVariants as item
use Rattle.ia_item.specs.declared.name.Name.{Name}
use Rattle.ia_item.specs.Names.{whole_name}
use Rattle.ia_names.specs.Namings.{Naming}
use Rattle.ia_names.specs.declared.names.Names.{Names}
use Rattle.ia_source.specs.Contents.{Reading, entry_content, item_content}
use Rattle.ia_source.specs.Source.{ReadsAs, entries_of}
use Rattle.elide_checks.specs.Constants.{is_among, is_equ, is_equ_among, is_equ_item}
use Rattle.elide_checks.specs.EquNames.{both_more, equ_names, item_names, names_in, none_more}

-- one entry more
pub one_more : (a b c : List Name) (es : List Entry) (e : Entry) → b ≡ a ++ names_in es → c ≡ b ++ equ_names e
    → c ≡ a ++ names_in (es ++ e ∷ [])
one_more a b c es e x y = both_more a b c es (e ∷ []) x (y ∙ ap (λ l. b ++ l) (none_more (equ_names e)))

-- ---- which names they are

abbrev written : Naming → Reading
written naming = record { naming = naming; written = true }

any_both : (p : Name → Bool) (xs ys : List Name) → list_any p (xs ++ ys) ≡ list_any p xs || list_any p ys
any_both p [] ys = refl
any_both p (x ∷ xs) ys = ap (λ b. p x || b) (any_both p xs ys) ∙ sym (or_assoc (p x) (list_any p xs) (list_any p ys))

or_none : (b : Bool) → (b || false) ≡ b
or_none true = refl
or_none false = refl

abbrev is_name : List ℕ → Name → Bool
is_name name other = bytes_eq name (whole_name other)

here : (naming : Naming) (name : List ℕ) (i : Item)
    → list_any (is_name name) (item_names i) ≡ is_equ_item name (item_content (written naming) i)
here naming name (item.Equ definition terms) = or_none (is_name name definition.name)
here naming name (item.Label definition) = refl
here naming name (item.Code template) = refl
here naming name (item.Byte terms) = refl
here naming name (item.Text bytes) = refl
here naming name (item.Numbers bytes) = refl
here naming name (item.Long terms) = refl
here naming name (item.Reserve terms) = refl
here naming name (item.Align power) = refl
here naming name (item.Org base) = refl

among : (naming : Naming) (name : List ℕ) (es : List Entry) →
    list_any (is_name name) (names_in es) ≡ list_any (is_equ name) (map (entry_content (written naming)) es)
among naming name [] = refl
among naming name (e ∷ es) =
    any_both (is_name name) (equ_names e) (names_in es)
    ∙ ap (λ b. list_any (is_name name) (equ_names e) || b) (among naming name es)
    ∙ ap (λ b. b || list_any (is_equ name) (map (entry_content (written naming)) es)) (here naming name e.item)

-- they are those that the lines of the text have
pub are_constants : (text : List ℕ) (names : Names) (es : List Entry) (kept : List Name) → ReadsAs text names es →
    kept ≡ names_in es → (name : List ℕ) → is_among kept name ≡ is_equ_among name (entries_of text)
are_constants text names es kept reads are name =
    let asked = asks_for text names es reads in
    ap (λ (l : List Name). is_among l name) are ∙ among asked.naming name es
    ∙ sym (ap (is_equ_among name) asked.written)
