use Rattle.std.proofs.Common.{◌≡◌, ◌++◌, List, drop}
use Rattle.ia_item.specs.declared.item.Entry.{Entry as EntryOf}
use Rattle.ia_layout.specs.Placement.{base_of}
use Rattle.ia_layout.proofs.base.first_org.Given as goal

abbrev pub invariant-loop-entry : goal.invariant-loop-entry
invariant-loop-entry l =
    (more : List EntryOf) → base_of (drop l.entry-index l.entries ++ more) ≡ base_of (l.entries ++ more)
