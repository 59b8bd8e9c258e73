-- Items by the parts of their words.
use Rattle.std.proofs.Common.{ℕ, Bool, List}
use Rattle.elide_program.specs.declared.file.ProgramFile.{ProgramFile}
use Rattle.tm_check.specs.declared.clause.Quantity.{Quantity}
use Rattle.tm_check.specs.declared.clause.Quantity.TheVariants.{OfMachine, OfRun}
use Rattle.tm_condition.specs.declared.item.Item.TheVariants.{Register, Memory, Number}
use Rattle.elide_checks.specs.Items.{IsItem, IsNamed, IsParted}
use Rattle.elide_checks.specs.declared.items.Side.{Side}

pub named_is : (file : ProgramFile) (constants : List ℕ → Bool) (side : Side) (word name whose : List ℕ)
    (quantity : Quantity) →
    IsParted word name whose → IsNamed name whose quantity → IsItem file constants side word quantity
named_is file constants side word name whose (OfMachine (Register core register)) parts is =
    record { before = name; behind = whose; parts = parts; named = is }
named_is file constants side word name whose (OfMachine (Memory address)) parts is = absurd is
named_is file constants side word name whose (OfMachine (Number number)) parts is = absurd is
named_is file constants side word name whose (OfRun count) parts is =
    record { before = name; behind = whose; parts = parts; named = is }
