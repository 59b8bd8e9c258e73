-- What the code's values stand for.
use Rattle.std.specs.Prelude.{ℕ, List, flat_map, ℤ, ◌+◌, ◌-◌, ◌≤◌, ◌^◌, Option, Some, None, pos, negsuc, ◌≤ℤ◌}
use Rattle.indexmap.specs.IndexMap.{insert_all}
use Rattle.ia_item.specs.declared.item.Entry.{Entry}
use Rattle.ia_item.specs.declared.symbol.Symbol.{Symbol}
use Rattle.ia_item.specs.Names.{same_symbol}
use Rattle.ia_item.specs.Fits.{FitsEntry}
use Rattle.ia_resolve.specs.declared.symbols.Table.{Table}
use Rattle.ia_layout.specs.declared.base.FirstOrg.{FirstOrg}
use Rattle.ia_layout.specs.declared.layout.PlacedEntry.{PlacedEntry}
use Rattle.ia_layout.specs.declared.layout.Layout.{Layout}
use Rattle.ia_layout.specs.Placement.{EntryPlace, LayoutState, base_of, definition}

abbrev pub entry_place : PlacedEntry → EntryPlace
entry_place s = record {
  entry = s.entry.now;
  at = s.at;
  size = s.size;
  critical_value = s.critical_value;
  fault =
      s.fault;
}

abbrev pub layout_state : Layout → LayoutState
layout_state w = record { above = w.above.values.entries; text = w.text; tail = w.tail }

-- it ends far below 2^127, its entry fits, and what it settles is from -2^31 to 2^32 - 1
abbrev pub IsBounded : PlacedEntry → Type 0
IsBounded s = (s.at + s.size ≤ 2 ^ 126) × FitsEntry s.entry.now × (negsuc (2 ^ 31 - 1) ≤ℤ s.critical_value)
    × (s.critical_value ≤ℤ pos (2 ^ 32 - 1))

-- a base, or another
abbrev pub or_base : Option ℕ → ℕ → ℕ
or_base None other = other
or_base (Some base) other = base

-- the base that is set so far or by these entries, or 100h
abbrev pub base_with : FirstOrg → List Entry → ℕ
base_with first es = or_base first.found (base_of es)

-- the symbols so far, and those of the places behind
abbrev pub symbols_with : Table → List EntryPlace → List (Symbol × ℤ)
symbols_with table ps = insert_all same_symbol table.values.entries (flat_map definition ps)
