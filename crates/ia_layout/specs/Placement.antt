-- Where items stand, and what each of them gives: the bytes of the image, the symbols and the faults.
--
-- NASM manual, chapter 3 ("Pseudo-Instructions", "Critical Expressions") and chapter 7 (ORG, SECTION); docs/FORMATS.md,
-- "Source".
use Rattle.std.specs.Prelude.{ℕ, ◌+◌, ◌-◌, ◌%◌, ◌^◌, Bool, true, false, ◌||◌, ◌==◌, nat_lt, if◌then◌else◌, Option, Some}
use Rattle.std.specs.Prelude.{None, List, [], ◌∷◌, ◌++◌, ℤ, pos, length, replicate, flat_map, option_map}
use Rattle.indexmap.specs.IndexMap.{insert_entry, insert_all}
use Rattle.ia_word.specs.Bytes.{long_bytes}
use Rattle.ia_item.specs.declared.symbol.Symbol.{Symbol}
use Rattle.ia_item.specs.Names.{same_symbol}
use Rattle.ia_item.specs.Expressions.{Env}
use Rattle.ia_item.specs.Fields.{low_of, high_of, modulo_long}
use Rattle.ia_item.specs.declared.item.Entry.{Entry}
use Rattle.ia_item.specs.declared.item.Section.{Section}
use Rattle.ia_item.specs.declared.item.Section.TheVariants.{Text as InText, Data as InData}
use Rattle.ia_item.specs.declared.item.Item.{Item}
use Rattle.ia_item.specs.declared.item.Item.TheVariants as item
use Rattle.ia_item.specs.declared.item.Field.TheVariants as field
use Rattle.ia_resolve.specs.declared.place_fault.PlaceFault.{PlaceFault}
use Rattle.ia_resolve.specs.declared.place_fault.PlaceFault.TheVariants.{Range}
use Rattle.ia_resolve.specs.PlaceFaults.{first_of}
use Rattle.ia_resolve.specs.Symbols.{known}
use Rattle.ia_resolve.specs.Values.{sum_fault, value_or_zero}
use Rattle.ia_resolve.specs.Items.{field_value, field_fault, code_bytes, template_fault}

-- ---- sizes

-- no symbol is known
abbrev pub nowhere : Env
nowhere name = None

-- the value of `equ`, and the count of `resb`, by the `equ` symbols above
unfoldable pub critical_value : List (Symbol × ℤ) → Item → ℤ
critical_value above (item.Equ n s) = value_or_zero (known above) (low_of field.Long) (high_of field.Long) s
critical_value above (item.Reserve s) = value_or_zero (known above) (pos 0) (pos (2 ^ 32 - 1)) s
critical_value above _ = pos 0

-- what is wrong with them
unfoldable pub critical_fault : List (Symbol × ℤ) → Item → Option PlaceFault
critical_fault above (item.Equ n s) = sum_fault (known above) (low_of field.Long) (high_of field.Long) s
critical_fault above (item.Reserve s) = sum_fault (known above) (pos 0) (pos (2 ^ 32 - 1)) s
critical_fault above _ = None

-- how far it is from an address to the next multiple of n
abbrev pub gap : ℕ → ℕ → ℕ
gap n at = (n - at % n) % n

-- how many bytes an item takes at an address: it is known before any symbol is
unfoldable pub size_of : ℕ → ℤ → Item → ℕ
size_of at v (item.Label n) = 0
size_of at v (item.Equ n s) = 0
size_of at v (item.Code t) = length (code_bytes nowhere at t)
size_of at v (item.Byte s) = 1
size_of at v (item.Text b) = length b.now
size_of at v (item.Numbers b) = length b.items
size_of at v (item.Long s) = 4
size_of at v (item.Reserve s) = modulo_long v
size_of at v (item.Align n) = gap n at
size_of at v (item.Org n) = 0

-- ---- places

-- an entry, its address, how many bytes it takes, and what it settles
pub record EntryPlace : Type 0 where
  pub entry : Entry
  pub at : ℕ
  pub size : ℕ
  pub critical_value : ℤ
  pub fault : Option PlaceFault

-- the `equ` symbols so far, and where the next item of each section goes
pub record LayoutState : Type 0 where
  pub above : List (Symbol × ℤ)
  pub text : ℕ
  pub tail : ℕ

abbrev pub at_in : Section → LayoutState → ℕ
at_in InText s = s.text
at_in InData s = s.tail

abbrev pub place_at : LayoutState → Entry → EntryPlace
place_at s e = record {
  entry = e;
  at = at_in e.section s;
  size = size_of (at_in e.section s) (critical_value s.above e.item) e.item;
  critical_value = critical_value s.above e.item;
  fault = critical_fault s.above e.item;
}

unfoldable pub above_next : List (Symbol × ℤ) → ℤ → Item → List (Symbol × ℤ)
above_next above v (item.Equ d s) = insert_entry same_symbol above d.symbol v
above_next above v _ = above

abbrev pub text_next : Section → ℕ → ℕ → ℕ
text_next InText at n = at + n
text_next InData at n = at

abbrev pub tail_next : Section → ℕ → ℕ → ℕ
tail_next InText at n = at
tail_next InData at n = at + n

-- each item follows the one before in its section
abbrev pub behind : LayoutState → EntryPlace → LayoutState
behind s p = record {
  above = above_next s.above p.critical_value p.entry.item;
  text = text_next p.entry.section s.text p.size;
  tail = tail_next p.entry.section s.tail p.size;
}

abbrev pub next : LayoutState → Entry → LayoutState
next s e = behind s (place_at s e)

abbrev pub places : LayoutState → List Entry → List EntryPlace
places s [] = []
places s (e ∷ es) = place_at s e ∷ places (next s e) es

abbrev pub after : LayoutState → List Entry → LayoutState
after s [] = s
after s (e ∷ es) = after (next s e) es

-- a base of 2^32 or more counts as 0
abbrev pub org_value : Option ℕ → ℕ
org_value None = 0
org_value (Some n) = if nat_lt n (2 ^ 32) then n else 0

unfoldable pub base_or : Item → ℕ → ℕ
base_or (item.Org n) base = org_value n
base_or _ base = base

-- the base that is written, or 100h
abbrev pub base_of : List Entry → ℕ
base_of [] = 0x100
base_of (e ∷ es) = base_or e.item (base_of es)

abbrev pub start : ℕ → ℕ → LayoutState
start base tail = record { above = []; text = base; tail = tail }

abbrev pub text_end : List Entry → ℕ
text_end es = (after (start (base_of es) 0) es).text

-- the data begins at the next multiple of 64 at or after the end of the code
abbrev pub tail_base : ℕ → ℕ
tail_base at = at + gap 64 at

-- the place of each entry
abbrev pub all_places : List Entry → List EntryPlace
all_places es = places (start (base_of es) (tail_base (text_end es))) es

-- ---- symbols

-- a label has its address, and `equ` its value
unfoldable pub item_definition : ℕ → ℤ → Item → List (Symbol × ℤ)
item_definition at v (item.Label d) = (d.symbol, pos at) ∷ []
item_definition at v (item.Equ d s) = (d.symbol, v) ∷ []
item_definition at v _ = []

abbrev pub definition : EntryPlace → List (Symbol × ℤ)
definition p = item_definition p.at p.critical_value p.entry.item

-- each symbol with its value, in the order of the source
abbrev pub symbols : List EntryPlace → List (Symbol × ℤ)
symbols ps = insert_all same_symbol [] (flat_map definition ps)

abbrev pub values : List EntryPlace → Env
values ps = known (symbols ps)

-- ---- bytes

-- `align` fills the code with NOP, and the data with 0
abbrev pub pad : Section → ℕ
pad InText = 0x90
pad InData = 0

unfoldable pub bytes_at : Env → ℕ → ℤ → Section → Item → List ℕ
bytes_at env at v s (item.Label n) = []
bytes_at env at v s (item.Equ n e) = []
bytes_at env at v s (item.Code t) = code_bytes env at t
bytes_at env at v s (item.Byte e) = field_value env at field.Byte e ∷ []
bytes_at env at v s (item.Text b) = b.now
bytes_at env at v s (item.Numbers b) = b.items
bytes_at env at v s (item.Long e) = long_bytes (field_value env at field.Long e)
bytes_at env at v s (item.Reserve e) = replicate (modulo_long v) 0
bytes_at env at v s (item.Align n) = replicate (gap n at) (pad s)
bytes_at env at v s (item.Org n) = []

abbrev pub item_bytes : Env → EntryPlace → List ℕ
item_bytes env p = bytes_at env p.at p.critical_value p.entry.section p.entry.item

abbrev pub in_section : Section → Section → Bool
in_section InText InText = true
in_section InData InData = true
in_section _ _ = false

abbrev pub part_of : Section → Env → EntryPlace → List ℕ
part_of s env p = if in_section s p.entry.section then item_bytes env p else []

-- the bytes of a section: each item's, one after the other
abbrev pub section_bytes : Section → Env → List EntryPlace → List ℕ
section_bytes s env ps = flat_map (part_of s env) ps

-- where there is no data, the code alone; else zeros up to the data
abbrev pub code_and_data : List ℕ → ℕ → List ℕ → List ℕ
code_and_data code n tail = if length tail == 0 then code else code ++ replicate n 0 ++ tail

-- ---- faults

-- an item ends more than 2^28 bytes from the base, or past 2^32
abbrev pub end_fault : ℕ → ℕ → Option PlaceFault
end_fault base end = if nat_lt (base + 2 ^ 28) end || nat_lt (2 ^ 32) end then Some Range else None

abbrev pub org_fault : Option ℕ → Option PlaceFault
org_fault None = Some Range
org_fault (Some n) = if nat_lt n (2 ^ 32) then None else Some Range

unfoldable pub item_fault : Env → ℕ → EntryPlace → Item → Option PlaceFault
item_fault env base p (item.Label n) = None
item_fault env base p (item.Equ n s) = p.fault
item_fault env base p (item.Code t) = first_of (template_fault env p.at t) (end_fault base (p.at + p.size))
item_fault env base p (item.Byte s) = first_of (field_fault env p.at field.Byte s) (end_fault base (p.at + p.size))
item_fault env base p (item.Text b) = end_fault base (p.at + p.size)
item_fault env base p (item.Numbers b) = end_fault base (p.at + p.size)
item_fault env base p (item.Long s) = first_of (field_fault env p.at field.Long s) (end_fault base (p.at + p.size))
item_fault env base p (item.Reserve s) = first_of p.fault (end_fault base (p.at + p.size))
item_fault env base p (item.Align n) = end_fault base (p.at + p.size)
item_fault env base p (item.Org n) = org_fault n

abbrev pub place_fault : Env → ℕ → EntryPlace → Option PlaceFault
place_fault env base p = item_fault env base p p.entry.item

-- the first fault, in the order in which they are told, of what stands on a line
abbrev pub fault_on : ℕ → Env → ℕ → List EntryPlace → Option PlaceFault
fault_on line env base [] = None
fault_on line env base (p ∷ ps) = first_of (if p.entry.line == line then place_fault env base p else None)
    (fault_on line env base ps)

-- what is told where the first entry has this fault, its line has that one behind, and what follows is told so
abbrev pub by_first : Option PlaceFault → ℕ → Option PlaceFault → Option (PlaceFault × ℕ) → Option (PlaceFault × ℕ)
by_first None line more later = later
by_first (Some f) line more later = option_map (λ g. (g, line)) (first_of (Some f) more)

-- the first line that has a fault, and its first fault
abbrev pub first_fault : Env → ℕ → List EntryPlace → Option (PlaceFault × ℕ)
first_fault env base [] = None
first_fault env base (p ∷ ps) = by_first (place_fault env base p) p.entry.line (fault_on p.entry.line env base ps)
    (first_fault env base ps)
