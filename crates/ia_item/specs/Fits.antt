-- Items that can be placed.
use Rattle.std.specs.Prelude.{◌≡◌, ℕ, ◌^◌, ◌≤◌, Option, Some, None, List, IsTrue, All, length}
use Rattle.ia_insn.specs.Encoding.{is_encodable}
use Rattle.ia_item.specs.declared.item.Template.{Template}
use Rattle.ia_item.specs.declared.item.Item.{Item}
use Rattle.ia_item.specs.declared.item.Item.TheVariants as item
use Rattle.ia_item.specs.declared.item.Entry.{Entry}
use Rattle.ia_item.specs.declared.expression.ScopedExpression.{ScopedExpression}

-- 1 to 16 terms
abbrev pub FitsExpression : ScopedExpression → Type 0
FitsExpression s = (1 ≤ length s.terms.items) × (length s.terms.items ≤ 16)

abbrev pub FitsAnyExpression : Option ScopedExpression → Type 0
FitsAnyExpression None = Unit {0}
FitsAnyExpression (Some s) = FitsExpression s

-- the instruction is encodable as it stands; it stays so with whatever its number's field and a displacement hold
abbrev pub Fits : Template → Type 0
Fits t = IsTrue (is_encodable t.insn) × FitsAnyExpression t.number × FitsAnyExpression t.displacement

-- a power of two, 1 to 4096
abbrev pub IsPower : ℕ → Type 0
IsPower n = (k : ℕ) × (k ≤ 12) × (n ≡ 2 ^ k)

abbrev pub FitsItem : Item → Type 0
FitsItem (item.Label name) = Unit {0}
FitsItem (item.Equ name s) = FitsExpression s
FitsItem (item.Code t) = Fits t
FitsItem (item.Byte s) = FitsExpression s
FitsItem (item.Text b) = Unit {0}
FitsItem (item.Numbers b) = Unit {0}
FitsItem (item.Long s) = FitsExpression s
FitsItem (item.Reserve s) = FitsExpression s
FitsItem (item.Align n) = IsPower n
FitsItem (item.Org n) = Unit {0}

abbrev pub FitsEntry : Entry → Type 0
FitsEntry e = FitsItem e.item

abbrev pub AllFit : List Entry → Type 0
AllFit es = All FitsEntry es
