-- What stands in an image, said without the passes that make it: items at consecutive addresses, each of which has the
-- bytes that it asks for, and symbols with the addresses of what follows them (docs/FORMATS.md, "Source").
use Rattle.std.specs.Prelude.{◌≡◌, ℕ, ◌+◌, ◌-◌, ◌%◌, ◌<◌, ◌≤◌, Bool, false, if◌then◌else◌, IsTrue, Some, List, [], ◌∷◌}
use Rattle.std.specs.Prelude.{ℤ, pos, length, map, flat_map, replicate}
use Rattle.std.specs.List.{list_any}
use Rattle.ia_word.specs.Bytes.{long_bytes}
use Rattle.ia_insn.specs.Spelling.{Spells}
use Rattle.ia_item.specs.declared.symbol.Symbol.{Symbol}
use Rattle.ia_item.specs.Names.{same_symbol}
use Rattle.ia_item.specs.Expressions.{Env}
use Rattle.ia_item.specs.declared.item.Entry.{Entry}
use Rattle.ia_item.specs.declared.item.Section.{Section}
use Rattle.ia_item.specs.declared.item.Section.TheVariants.{Text as InText, Data as InData}
use Rattle.ia_item.specs.declared.item.Item.{Item}
use Rattle.ia_item.specs.declared.item.Item.TheVariants as item
use Rattle.ia_item.specs.declared.item.Field.TheVariants as field
use Rattle.ia_resolve.specs.Symbols.{known}
use Rattle.ia_resolve.specs.Items.{field_value, resolved_insn}
use Rattle.ia_layout.specs.Placement.{code_and_data, in_section, pad}

-- an item, its address, and the bytes that stand there
pub record PlacedItem : Type 0 where
  pub entry : Entry
  pub at : ℕ
  pub bytes : List ℕ

-- what an item adds to a section
abbrev pub bytes_in : Section → PlacedItem → List ℕ
bytes_in part x = if in_section part x.entry.section then x.bytes else []

-- the items of a section stand one behind the other, the first at this address
abbrev pub AreConsecutive : Section → ℕ → List PlacedItem → Type 0
AreConsecutive part at [] = Unit {0}
AreConsecutive part at (x ∷ xs) = (IsTrue (in_section part x.entry.section) → x.at ≡ at)
    × AreConsecutive part (at + length (bytes_in part x)) xs

-- the least multiple of n that is not below an address
pub record IsNextMultiple (n at next : ℕ) : Type 0 where
  pub not_below : at ≤ next
  pub near : next < at + n
  pub multiple : next % n ≡ 0

-- an item defines this symbol
abbrev pub item_defines : Symbol → Item → Bool
item_defines symbol (item.Label d) = same_symbol symbol d.symbol
item_defines symbol (item.Equ d s) = same_symbol symbol d.symbol
item_defines symbol _ = false

abbrev pub is_defined : Symbol → List PlacedItem → Bool
is_defined symbol xs = list_any (λ x. item_defines symbol x.entry.item) xs

-- the bytes of an item are what it asks for, where symbols have these values; a label that none of the items behind
-- defines again has the address at which it stands
abbrev pub GivesItem : Env → PlacedItem → List PlacedItem → Item → Type 0
GivesItem env x xs (item.Label d) = (x.bytes ≡ []) × (is_defined d.symbol xs ≡ false → env d.symbol ≡ Some (pos x.at))
GivesItem env x xs (item.Equ d s) = x.bytes ≡ []
GivesItem env x xs (item.Code t) = Spells x.bytes (resolved_insn env x.at t)
GivesItem env x xs (item.Byte s) = x.bytes ≡ field_value env x.at field.Byte s ∷ []
GivesItem env x xs (item.Text text) = x.bytes ≡ text.now
GivesItem env x xs (item.Numbers b) = x.bytes ≡ b.items
GivesItem env x xs (item.Long s) = x.bytes ≡ long_bytes (field_value env x.at field.Long s)
GivesItem env x xs (item.Reserve s) = x.bytes ≡ replicate (length x.bytes) 0
GivesItem env x xs (item.Align n) =
    (x.bytes ≡ replicate (length x.bytes) (pad x.entry.section)) × IsNextMultiple n x.at (x.at + length x.bytes)
GivesItem env x xs (item.Org n) = x.bytes ≡ []

abbrev pub AreGiven : Env → List PlacedItem → Type 0
AreGiven env [] = Unit {0}
AreGiven env (x ∷ xs) = GivesItem env x xs x.entry.item × AreGiven env xs

-- these bytes at this address, so many of them code, are the entries' items: those of `.text` from the address on, and
-- those of `.data` from the next multiple of 64 on, with zeros between
pub record IsPlacement (es : List Entry) (base code_len : ℕ) (image : List ℕ) (symbols : List (Symbol × ℤ))
    : Type 0 where
  pub items : List PlacedItem
  pub tail : ℕ
  pub entries : map (λ (x : PlacedItem). x.entry) items ≡ es
  pub text_items : AreConsecutive InText base items
  pub data_items : AreConsecutive InData tail items
  pub code : code_len ≡ length (flat_map (bytes_in InText) items)
  pub tail_begins : IsNextMultiple 64 (base + code_len) tail
  pub bytes : image ≡ code_and_data (flat_map (bytes_in InText) items) (tail - (base + code_len))
      (flat_map (bytes_in InData) items)
  pub given : AreGiven (known symbols) items
