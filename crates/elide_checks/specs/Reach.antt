-- What a check looks at is there (docs/FORMATS.md, "Checks"), on a machine with a memory of so many bytes and so many
-- cores: each register and each count is one of such a core, and each doubleword and all bytes lie in memory.
use Rattle.std.specs.Prelude.{ℕ, ⊤, ◌+◌, ◌<◌, ◌≤◌, All, length}
use Rattle.tm_check.specs.declared.check.Check.{Check}
use Rattle.tm_check.specs.declared.check.Check.TheVariants.{Demanded, Forbidden, NoStop, AllStop}
use Rattle.tm_check.specs.declared.clause.Quantity.{Quantity}
use Rattle.tm_check.specs.declared.clause.Quantity.TheVariants as quantity
use Rattle.tm_check.specs.declared.clause.RunClause.{RunClause}
use Rattle.tm_check.specs.declared.clause.RunClause.TheVariants as clause
use Rattle.tm_check.specs.declared.count.Cores.{Cores}
use Rattle.tm_check.specs.declared.count.Cores.TheVariants as cores_of
use Rattle.tm_check.specs.declared.count.Count.{Count}
use Rattle.tm_check.specs.declared.count.Count.TheVariants.{Commits, Aborts}
use Rattle.tm_condition.specs.declared.check.Check.{Check as EndCheck}
use Rattle.tm_condition.specs.declared.check.Check.TheVariants as end
use Rattle.tm_condition.specs.declared.clause.Clause.{Clause}
use Rattle.tm_condition.specs.declared.clause.Clause.TheVariants.{Compare, Bytes}
use Rattle.tm_condition.specs.declared.item.Item.{Item}
use Rattle.tm_condition.specs.declared.item.Item.TheVariants.{Register, Memory, Number}

abbrev pub HasItem : ℕ → ℕ → Item → Type 0
HasItem size cores (Register core register) = core < cores
HasItem size cores (Memory address) = address + 4 ≤ size
HasItem size cores (Number value) = ⊤

abbrev pub HasClause : ℕ → ℕ → Clause → Type 0
HasClause size cores (Compare left comparison right) = HasItem size cores left × HasItem size cores right
HasClause size cores (Bytes address bytes) = address + length bytes.items ≤ size

-- ---- of a run

abbrev pub HasCores : ℕ → Cores → Type 0
HasCores cores cores_of.All = ⊤
HasCores cores (cores_of.One core) = core < cores

abbrev pub HasCount : ℕ → Count → Type 0
HasCount cores (Commits whose) = HasCores cores whose
HasCount cores (Aborts kind whose) = HasCores cores whose

abbrev pub HasQuantity : ℕ → ℕ → Quantity → Type 0
HasQuantity size cores (quantity.OfMachine item) = HasItem size cores item
HasQuantity size cores (quantity.OfRun count) = HasCount cores count

abbrev pub HasRunClause : ℕ → ℕ → RunClause → Type 0
HasRunClause size cores (clause.OfMachine one) = HasClause size cores one
HasRunClause size cores (clause.Compare left comparison right) =
    HasQuantity size cores left × HasQuantity size cores right

-- ---- checks

-- of a run, and of the end of a schedule
abbrev pub HasCheck : ℕ → ℕ → Check → Type 0
HasCheck size cores (Demanded clauses) = All (HasRunClause size cores) clauses.items
HasCheck size cores (Forbidden clauses) = All (HasRunClause size cores) clauses.items
HasCheck size cores (NoStop why) = ⊤
HasCheck size cores AllStop = ⊤

abbrev pub HasEndCheck : ℕ → ℕ → EndCheck → Type 0
HasEndCheck size cores (end.Demanded clauses) = All (HasClause size cores) clauses.items
HasEndCheck size cores (end.Forbidden clauses) = All (HasClause size cores) clauses.items
