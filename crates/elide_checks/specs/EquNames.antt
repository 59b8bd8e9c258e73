-- The names of the `equ`s of a source, as they are gathered some entries at a time.
use Rattle.std.specs.Prelude.{◌≡◌, List, [], ◌∷◌, ◌++◌, refl}
use Rattle.std.proofs.Common.{sym, ◌∙◌, ap, append_assoc, append-nil}
use Rattle.ia_item.specs.declared.item.Entry.{Entry}
use Rattle.ia_item.specs.declared.item.Item.{Item}
use Rattle.ia_item.specs.declared.item.Item.TheVariants as item
use Rattle.ia_item.specs.declared.name.Name.{Name}

abbrev pub item_names : Item → List Name
item_names (item.Equ definition terms) = definition.name ∷ []
item_names (item.Label definition) = []
item_names (item.Code template) = []
item_names (item.Byte terms) = []
item_names (item.Text bytes) = []
item_names (item.Numbers bytes) = []
item_names (item.Long terms) = []
item_names (item.Reserve terms) = []
item_names (item.Align power) = []
item_names (item.Org base) = []

-- the name that an entry gives by `equ`
abbrev pub equ_names : Entry → List Name
equ_names entry = item_names entry.item

abbrev pub names_in : List Entry → List Name
names_in [] = []
names_in (entry ∷ entries) = equ_names entry ++ names_in entries

names_both : (es fs : List Entry) → names_in (es ++ fs) ≡ names_in es ++ names_in fs
names_both [] fs = refl
names_both (e ∷ es) fs =
    ap (λ l. equ_names e ++ l) (names_both es fs) ∙ sym (append_assoc (equ_names e) (names_in es) (names_in fs))

pub none_more : (names : List Name) → names ≡ names ++ []
none_more names = sym (append-nil names)

pub both_more : (a b c : List Name) (es fs : List Entry) → b ≡ a ++ names_in es → c ≡ b ++ names_in fs →
    c ≡ a ++ names_in (es ++ fs)
both_more a b c es fs x y =
    y ∙ ap (λ l. l ++ names_in fs) x ∙ append_assoc a (names_in es) (names_in fs)
    ∙ ap (λ l. a ++ l) (sym (names_both es fs))
