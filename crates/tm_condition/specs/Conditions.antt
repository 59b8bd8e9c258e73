-- Conditions on a machine (docs/FORMATS.md, "Checks").
use Rattle.std.specs.Prelude.{◌≡◌, ℕ, ◌+◌, ◌≤◌, ◌&&◌, Bool, true, not, List, All, Option, Some, None, length, nat_eq}
use Rattle.std.specs.Prelude.{nat_lt}
use Rattle.std.specs.Prelude.{nat_le, if◌then◌else◌, slice_index, slice_range}
use Rattle.ia_regs.specs.declared.Regs.{Regs}
use Rattle.ia_word.specs.Operand.{operand_of}
use Rattle.ia_word.specs.declared.width.Width.TheVariants.{D}
use Rattle.tm_model.specs.Access.{addresses_of, bytes_at}
use Rattle.tm_core.specs.Theorem.{ShownMachine, view_at}
use Rattle.tm_condition.specs.declared.check.Check.{Check}
use Rattle.tm_condition.specs.declared.check.Check.TheVariants.{Demanded, Forbidden}
use Rattle.tm_condition.specs.declared.clause.Clause.{Clause}
use Rattle.tm_condition.specs.declared.clause.Clause.TheVariants.{Compare, Bytes}
use Rattle.tm_condition.specs.declared.comparison.Comparison.{Comparison}
use Rattle.tm_condition.specs.declared.comparison.Comparison.TheVariants.{Equal, NotEqual, Below, AtMost, Above}
use Rattle.tm_condition.specs.declared.comparison.Comparison.TheVariants.{AtLeast}
use Rattle.tm_condition.specs.declared.item.Item.{Item}
use Rattle.tm_condition.specs.declared.item.Item.TheVariants.{Register, Memory, Number}

-- what a condition looks at: memory, and of each core below the count the registers outside of transactions
pub record Seen : Type 0 where
  pub memory : List ℕ
  pub count : ℕ
  pub regs : ℕ → Regs

-- that of a machine
abbrev pub seen_of : ShownMachine → Seen
seen_of machine = record {
  memory = machine.memory;
  count = length machine.views;
  regs = λ core. (view_at machine core).base;
}

-- two numbers compare so, without sign
abbrev pub compares : Comparison → ℕ → ℕ → Bool
compares Equal a b = nat_eq a b
compares NotEqual a b = not (nat_eq a b)
compares Below a b = nat_lt a b
compares AtMost a b = nat_le a b
compares Above a b = nat_lt b a
compares AtLeast a b = nat_le b a

-- the doubleword at an address, where it is in memory
abbrev pub doubleword_of : List ℕ → ℕ → Option ℕ
doubleword_of memory address =
    if nat_le (address + 4) (length memory) then Some (operand_of D (bytes_at memory (addresses_of address D)))
    else None

-- a register of a core, where there is such a core and register; the doubleword at an address; a number
abbrev pub value_of : Seen → Item → Option ℕ
value_of seen (Register core register) =
    if nat_lt core seen.count && nat_lt register 8 then Some (slice_index (seen.regs core).gpr register) else None
value_of seen (Memory address) = doubleword_of seen.memory address
value_of seen (Number number) = Some number

-- both values are there, and compare so
abbrev pub Compares : Comparison → Option ℕ → Option ℕ → Type 0
Compares comparison (Some a) (Some b) = compares comparison a b ≡ true
Compares comparison (Some a) None = ⊥
Compares comparison None b = ⊥

-- these bytes stand at an address
abbrev pub StandsAt : List ℕ → ℕ → List ℕ → Type 0
StandsAt memory address bytes =
    (address + length bytes ≤ length memory) × (slice_range memory address (address + length bytes) ≡ bytes)

-- a condition holds
abbrev pub Holds : Seen → Clause → Type 0
Holds seen (Compare left comparison right) = Compares comparison (value_of seen left) (value_of seen right)
Holds seen (Bytes address bytes) = StandsAt seen.memory address bytes.items

-- a check is violated: a condition that is demanded does not hold, or each of those that are forbidden together does
abbrev pub Violates : Seen → Check → Type 0
Violates seen (Demanded clauses) = ¬ All (Holds seen) clauses.items
Violates seen (Forbidden clauses) = All (Holds seen) clauses.items
