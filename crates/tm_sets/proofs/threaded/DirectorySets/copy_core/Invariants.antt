use Rattle.std.proofs.Common.{◌≡◌, ℕ, ◌-◌, true, false, eqb, length}
use Rattle.std.specs.FinSet as set
use Rattle.tm_sets.specs.declared.interface.Kind.{Kind}
use Rattle.tm_sets.specs.Row.{entry_at, lines_in, slot_among}
use Rattle.tm_sets.specs.Threaded.{OnCore, AreThreaded, threaded_content}
use Rattle.tm_sets.specs.DirectoryRows.{rows_of}
use Rattle.tm_sets.proofs.CoreWalks.{CoreWalk}
use Rattle.tm_sets.proofs.Same.{Within}
use Rattle.tm_sets.proofs.Walks.{Ahead}
use Rattle.tm_sets.proofs.threaded.DirectorySets.copy_core.Given as goal

abbrev pub invariant-loop-at : goal.invariant-loop-at
invariant-loop-at l = record {
  walk : CoreWalk (rows_of l.other) l.core l.at l.visited;
  unseen : (rank : ℕ → ℕ) (top : ℕ) → AreThreaded (rows_of l.other) rank top
      → (e : ℕ) → OnCore l.other.entries.items l.core e
      → set.contains (lines_in l.self.entries.items l.core (entry_at l.other.entries.items e).kind)
      (entry_at l.other.entries.items e).line ≡ false
      → Ahead rank l.at e;
  within :
      (kind : Kind) → Within (lines_in l.self.entries.items l.core kind) (lines_in l.other.entries.items l.core kind);
  lines : (c : ℕ) → (eqb c l.core ≡ true → ⊥)
      → (kind : Kind) → lines_in l.self.entries.items c kind ≡ lines_in l.fn.self.entries.items c kind;
  slots :
      (c : ℕ) → (eqb c l.core ≡ true → ⊥) → slot_among l.self.entries.items c ≡ slot_among l.fn.self.entries.items c;
  fixed : (threaded_content (rows_of l.self)).fixed ≡ (threaded_content (rows_of l.fn.self)).fixed;
  visits : l.self.visits ≡ l.fn.self.visits;
}

abbrev pub decreases-loop-at : goal.decreases-loop-at
decreases-loop-at l = length l.other.entries.items - l.visited
