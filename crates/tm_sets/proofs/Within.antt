-- What one directory has of a core, and another has too.
use Rattle.std.proofs.Common.{◌≡◌, ℕ, ◌≤◌, true, false, List, sym, ap, ◌∙◌, ⊎_elim, arith}
use Rattle.std.specs.FinSet as set
use Rattle.std.specs.Cmp.{nat_cmp_total}
use Rattle.tm_sets.specs.declared.interface.Kind.{Kind}
use Rattle.tm_sets.specs.declared.row.Entry.{Entry}
use Rattle.tm_sets.specs.Row.{entry_at, lines_in, lines_among}
use Rattle.tm_sets.specs.Threaded.{Rows, OnCore, AreThreaded, AreCounted}
use Rattle.tm_sets.proofs.Counting.{tested, fails}
use Rattle.tm_sets.proofs.CoreWalks.{CoreWalk, none_ahead}
use Rattle.tm_sets.proofs.Members.{is_triple, stands, triple, present, absent, place_of}
use Rattle.tm_sets.proofs.Same.{same_of_subset}
use Rattle.tm_sets.proofs.Walks.{Ahead}

-- no core has a line past the lines of memory
pub past : (r : Rows) → AreCounted r → (core : ℕ) (kind : Kind) (line : ℕ) → r.line_count ≤ line
    → set.contains (lines_in r.entries core kind) line ≡ false
past r a core kind line h =
    absent r.entries core kind line (λ place b. fails (is_triple (entry_at r.entries place) core kind line) (λ t.
    let s = stands (entry_at r.entries place) core kind line t in
    omega (arith, a.line place b s.is_held, s.at_line, h)))

-- the line of an entry on the core's list is in the core's set
pub there : (es : List Entry) (core h : ℕ) (e : Entry) → OnCore es core h → e ≡ entry_at es h
    → set.contains (lines_in es core e.kind) e.line ≡ true
there es core h e o is = present es h core e.kind e.line o.0 (triple (entry_at es h) core e.kind e.line (record {
  is_held = o.1;
  at_core = o.2;
  at_kind = sym (ap (λ x. x.kind) is);
  at_line = sym (ap (λ x. x.line) is);
}))

-- where none that the other lacks is ahead at the end, it has each line
pub all_there : {r : Rows} {core at visited : ℕ} → CoreWalk r core at visited → (others : List Entry) → at ≡ 0
    → ((rank : ℕ → ℕ) (top : ℕ) → AreThreaded r rank top → (e : ℕ) → OnCore r.entries core e
    → set.contains (lines_in others core (entry_at r.entries e).kind) (entry_at r.entries e).line ≡ false
    → Ahead rank at e)
    → (kind : Kind) → set.is_subset (lines_in r.entries core kind) (lines_in others core kind) ≡ true
all_there {r} {core} w others z unseen kind =
    set.contains-is_subset nat_cmp_total (lines_in r.entries core kind) (lines_in others core kind) (λ q i.
    let p = place_of r.entries core kind q i in
    let s = stands (entry_at r.entries p.place) core kind q p.is in
    ⊎_elim
    (λ (t : set.contains (lines_in others core kind) q ≡ true). t)
    (λ (f : set.contains (lines_in others core kind) q ≡ false).
    absurd (none_ahead w p.place z (λ rank top t. unseen rank top t p.place (p.below, s.is_held, s.at_core)
    (ap (λ k. set.contains (lines_in others core k) (entry_at r.entries p.place).line) s.at_kind
    ∙ ap (set.contains (lines_in others core kind)) s.at_line ∙ f))))
    (tested (set.contains (lines_in others core kind) q)))

pub same_lines : (es others : List Entry) (core : ℕ) (kind : Kind)
    → set.len (lines_in es core kind) ≡ set.len (lines_in others core kind)
    → set.is_subset (lines_in es core kind) (lines_in others core kind) ≡ true
    → lines_in es core kind ≡ lines_in others core kind
same_lines es others core kind len s = same_of_subset (lines_among es core kind) (lines_in others core kind) len s
