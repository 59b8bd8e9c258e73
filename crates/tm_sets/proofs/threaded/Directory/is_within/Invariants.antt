use Rattle.std.proofs.Common.{◌≡◌, ℕ, ◌-◌, false, length}
use Rattle.std.specs.FinSet as set
use Rattle.tm_sets.specs.Row.{entry_at, lines_in}
use Rattle.tm_sets.specs.Threaded.{OnCore, AreThreaded}
use Rattle.tm_sets.specs.DirectoryRows.{rows_of}
use Rattle.tm_sets.proofs.CoreWalks.{CoreWalk}
use Rattle.tm_sets.proofs.Walks.{Ahead}
use Rattle.tm_sets.proofs.threaded.Directory.is_within.Given as goal

abbrev pub invariant-loop-at : goal.invariant-loop-at
invariant-loop-at l = record {
  walk : CoreWalk (rows_of l.self) l.core l.at l.visited;
  unseen :
      (rank : ℕ → ℕ) (top : ℕ) → AreThreaded (rows_of l.self) rank top → (e : ℕ) → OnCore l.self.entries.items l.core e
      → set.contains (lines_in l.other.entries.items l.core (entry_at l.self.entries.items e).kind)
      (entry_at l.self.entries.items e).line ≡ false
      → Ahead rank l.at e;
}

abbrev pub decreases-loop-at : goal.decreases-loop-at
decreases-loop-at l = length l.self.entries.items - l.visited
