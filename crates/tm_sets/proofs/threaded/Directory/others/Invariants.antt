use Rattle.std.proofs.Common.{◌≡◌, ℕ, ◌-◌, ◌<◌, ◌^◌, ◌⊎◌, true, length}
use Rattle.tm_sets.specs.Content.{bit}
use Rattle.tm_sets.specs.Row.{entry_at}
use Rattle.tm_sets.specs.Threaded.{OnLine, AreThreaded, is_asked, asked, threaded_content}
use Rattle.tm_sets.specs.DirectoryRows.{rows_of}
use Rattle.tm_sets.proofs.Finding.{Walk}
use Rattle.tm_sets.proofs.Walks.{Ahead}
use Rattle.tm_sets.proofs.threaded.Directory.others.Given as goal

abbrev pub invariant-loop-at : goal.invariant-loop-at
invariant-loop-at l = record {
  walk : Walk (rows_of l.self) l.line l.at l.visited;
  told :
      (rank : ℕ → ℕ) (top : ℕ) → AreThreaded (rows_of l.self) rank top → (e : ℕ) → OnLine l.self.entries.items l.line e
      → is_asked (entry_at l.self.entries.items e) l.core l.written ≡ true
      → (bit l.mask (entry_at l.self.entries.items e).core ≡ true) ⊎ Ahead rank l.at e;
  sound : (k : ℕ) → bit l.mask k ≡ true → asked (threaded_content (rows_of l.self)) l.written l.line l.core k ≡ true;
  below : l.mask < 2 ^ length l.self.core_heads.items;
}

abbrev pub decreases-loop-at : goal.decreases-loop-at
decreases-loop-at l = length l.self.entries.items - l.visited
