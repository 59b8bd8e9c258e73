use Rattle.std.proofs.Common.{◌≡◌, ◌+◌, ℕ, length, get_or}
use Rattle.tm_sets.specs.declared.interface.Kind.{Kind}
use Rattle.tm_sets.specs.Row.{lines_in, slot_among}
use Rattle.tm_sets.proofs.threaded.DirectorySets.clear.Given as goal

abbrev pub invariant-loop-self : goal.invariant-loop-self
invariant-loop-self l = record {
  lines : (other : ℕ) (kind : Kind) → (other ≡ l.core → ⊥)
      → lines_in l.self.entries.items other kind ≡ lines_in l.fn.self.entries.items other kind;
  slots : (other line : ℕ) → (other ≡ l.core → ⊥)
      → slot_among l.self.entries.items other line ≡ slot_among l.fn.self.entries.items other line;
  cores : length l.self.core_heads.items ≡ length l.fn.self.core_heads.items;
  line_count : l.self.line_count ≡ l.fn.self.line_count;
  read_lines : l.self.read_lines ≡ l.fn.self.read_lines;
  write_lines : l.self.write_lines ≡ l.fn.self.write_lines;
  visits : l.self.visits ≡ l.fn.self.visits;
}

abbrev pub decreases-loop-self : goal.decreases-loop-self
decreases-loop-self l = get_or l.self.reads.items l.core 0 + get_or l.self.writes.items l.core 0
