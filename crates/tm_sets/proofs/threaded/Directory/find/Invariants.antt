use Rattle.std.proofs.Common.{◌≡◌, ℕ, ◌-◌, true, length}
use Rattle.tm_sets.specs.Row.{entry_at}
use Rattle.tm_sets.specs.Threaded.{OnLine, AreThreaded}
use Rattle.tm_sets.specs.DirectoryRows.{rows_of}
use Rattle.tm_sets.proofs.Members.{is_triple}
use Rattle.tm_sets.proofs.Finding.{Walk}
use Rattle.tm_sets.proofs.Walks.{Ahead}
use Rattle.tm_sets.proofs.threaded.Directory.find.Given as goal

abbrev pub invariant-loop-at : goal.invariant-loop-at
invariant-loop-at l = record {
  walk : Walk (rows_of l.self) l.line l.at l.visited;
  unseen :
      (rank : ℕ → ℕ) (top : ℕ) → AreThreaded (rows_of l.self) rank top → (e : ℕ) → OnLine l.self.entries.items l.line e
      → is_triple (entry_at l.self.entries.items e) l.core l.kind l.line ≡ true → Ahead rank l.at e;
}

abbrev pub decreases-loop-at : goal.decreases-loop-at
decreases-loop-at l = length l.self.entries.items - l.visited
