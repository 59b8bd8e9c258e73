-- A walk along a line's list, step by step.
use Rattle.std.proofs.Common.{◌≡◌, ℕ, ◌+◌, ◌-◌, ◌<◌, true, false, List, length, get_or, sym, ap, ◌∙◌, subst, arith}
use Rattle.std.proofs.Math.Logic.{∥∥₁_elim}
use Rattle.std.proofs.Props.{props}
use Rattle.std.specs.FinSet as lines
use Rattle.tm_sets.specs.declared.interface.Kind.{Kind}
use Rattle.tm_sets.specs.declared.row.Entry.{Entry}
use Rattle.tm_sets.specs.Row.{entry_at, lines_in}
use Rattle.tm_sets.specs.Threaded.{Rows, OnLine, on_line, entries_on, after_on_line, AreThreaded, IsThreaded}
use Rattle.tm_sets.proofs.Counting.{count_le, fails}
use Rattle.tm_sets.proofs.Members.{is_triple, stands, place_of}
use Rattle.tm_sets.proofs.Walks.{Ahead, left_on, line_tells, all_ahead, left_all, left_less, left_none, still}

-- how many places with the line are still to be visited
abbrev pub left : List Entry → ℕ → (ℕ → ℕ) → ℕ → ℕ
left es line rank at = left_on (on_line es line) (length es) rank at

-- a walk along a line's list has come to the place told: what it has visited and what is left are the entries of the
-- line
pub record Walk (r : Rows) (line at visited : ℕ) : Type 0 where
  pub threaded : IsThreaded r
  pub line_below : line < r.line_count
  pub there : (h : ℕ) → at ≡ h + 1 → OnLine r.entries line h
  pub visits : (rank : ℕ → ℕ) (top : ℕ) → AreThreaded r rank top
      → visited + left r.entries line rank at ≡ entries_on r.entries line

pub start_walk : (r : Rows) → IsThreaded r → (line : ℕ) → line < r.line_count
    → (at : ℕ) → at ≡ get_or r.line_heads line 0 → Walk r line at 0
start_walk r threaded line line_below at is = record {
  threaded = threaded;
  line_below = line_below;
  there = λ h i. ∥∥₁_elim threaded (hlevel props) (λ w. (w.2.lines line line_below).head_on h (sym is ∙ i));
  visits = λ rank top t.
      let a : left r.entries line rank at ≡ entries_on r.entries line =
      ap (left r.entries line rank) is
      ∙ left_all (OnLine r.entries line) (on_line r.entries line) (length r.entries) (line_tells r.entries line)
      (get_or r.line_heads line 0) (after_on_line r.entries) rank (t.lines line line_below) in
      omega arith;
}

pub start_ahead : (r : Rows) (line : ℕ) → line < r.line_count → (at : ℕ) → at ≡ get_or r.line_heads line 0
    → (rank : ℕ → ℕ) (top : ℕ) → AreThreaded r rank top → (e : ℕ) → OnLine r.entries line e → Ahead rank at e
start_ahead r line line_below at is rank top t e o =
    subst (λ k. Ahead rank k e) (sym is)
    (all_ahead (OnLine r.entries line) (on_line r.entries line) (length r.entries) (line_tells r.entries line)
    (get_or r.line_heads line 0) (after_on_line r.entries) rank (t.lines line line_below) e o)

module _ {r : Rows} {line at visited : ℕ} (w : Walk r line at visited) where
  open w use {threaded, line_below, there, visits}

  -- from a place on the list it goes to the one after
  module _ (some : at ≡ at - 1 + 1) where
    pub at_place : OnLine r.entries line (at - 1)
    at_place = there (at - 1) some

    one_less : (rank : ℕ → ℕ) (top : ℕ) → AreThreaded r rank top
        → left r.entries line rank at ≡ left r.entries line rank (after_on_line r.entries (at - 1)) + 1
    one_less rank top t =
        left_less (OnLine r.entries line) (on_line r.entries line) (length r.entries) (line_tells r.entries line)
        (get_or r.line_heads line 0) (after_on_line r.entries) rank (t.lines line line_below) at (at - 1) some at_place

    pub next_walk : {next more : ℕ} → next ≡ after_on_line r.entries (at - 1) → more ≡ visited + 1
        → Walk r line next more
    next_walk is one = record {
      threaded = threaded;
      line_below = line_below;
      there = λ g i. ∥∥₁_elim threaded (hlevel props)
          (λ v. (v.2.lines line line_below).after_on (at - 1) g at_place (sym is ∙ i));
      visits =
          λ rank top t. omega (arith, ap (left r.entries line rank) is, one_less rank top t, one, visits rank top t);
    }

    pub go_ahead : {next : ℕ} → next ≡ after_on_line r.entries (at - 1)
        → (rank : ℕ → ℕ) (top : ℕ) → AreThreaded r rank top → (e : ℕ) → OnLine r.entries line e → (e ≡ at - 1 → ⊥)
        → Ahead rank at e → Ahead rank next e
    go_ahead is rank top t e o d a = subst (λ k. Ahead rank k e) (sym is)
        (still (OnLine r.entries line) (on_line r.entries line) (length r.entries) (line_tells r.entries line)
        (get_or r.line_heads line 0) (after_on_line r.entries) rank (t.lines line line_below) (at - 1) e at_place o d
        (a.below (at - 1) some))

    -- there is one more to be visited
    pub visits_less : visited < entries_on r.entries line
    visits_less = ∥∥₁_elim threaded (hlevel props) (λ v. omega (arith, one_less v.0 v.1 v.2, visits v.0 v.1 v.2))

    pub visits_within : visited < length r.entries
    visits_within = omega (arith, visits_less, count_le (on_line r.entries line) (length r.entries))

  -- at the end there is none
  pub visits_all : at ≡ 0 → visited ≡ entries_on r.entries line
  visits_all z = ∥∥₁_elim threaded (hlevel props)
      (λ v. omega (arith, left_none (on_line r.entries line) (length r.entries) v.0 at z, visits v.0 v.1 v.2))

  -- where none that stands for a triple is ahead at the end, it isn't there
  pub unseen_absent : (core : ℕ) (kind : Kind) → at ≡ 0
      → ((rank : ℕ → ℕ) (top : ℕ) → AreThreaded r rank top → (e : ℕ) → OnLine r.entries line e
      → is_triple (entry_at r.entries e) core kind line ≡ true → Ahead rank at e)
      → lines.contains (lines_in r.entries core kind) line ≡ false
  unseen_absent core kind z unseen = fails (lines.contains (lines_in r.entries core kind) line) (λ found.
      ∥∥₁_elim threaded (hlevel props) (λ v.
      let p = place_of r.entries core kind line found in
      let s = stands (entry_at r.entries p.place) core kind line p.is in
      (unseen v.0 v.1 v.2 p.place (p.below, s.is_held, s.at_line) p.is).some z))
