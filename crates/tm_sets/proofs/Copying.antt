-- A core's lines, one after the other, in place of those of another core.
use Rattle.std.proofs.Common.{◌≡◌, ℕ, ◌≤◌, true, false, cond, eqb, not, leb, ◌&&◌, ◌||◌, Option, None, refl, sym, ap}
use Rattle.std.proofs.Common.{◌∙◌, ⊎_elim, arith}
use Rattle.std.proofs.lemmas.Bool.{cases_eq, eq-eqb, ne_eqb, leb-true}
use Rattle.std.specs.Ordering.{nat_cmp}
use Rattle.std.specs.FinSet as set
use Rattle.tm_sets.specs.declared.interface.Kind.{Kind}
use Rattle.tm_sets.specs.declared.interface.Kind.TheVariants.{Read, Write}
use Rattle.tm_sets.specs.Content.{Content, by_kind, same_kind, with_line, without_core}
use Rattle.tm_sets.specs.LineSet.{Lines}
use Rattle.tm_sets.specs.Row.{lines_in, lines_among}
use Rattle.tm_sets.specs.Threaded.{Rows, AreCounted}
use Rattle.tm_sets.proofs.Counting.{tested, never, both, fails}
use Rattle.tm_sets.proofs.Members.{same_kinds, kind_itself}
use Rattle.tm_sets.proofs.Same.{Within, inserted, newest, older, fewer_within}

module _ (a b : Content) (core : ℕ) (is : a ≡ without_core b core) where
  pub emptied : (kind : Kind) → a.lines core kind ≡ set.empty
  emptied kind = ap (λ x. x.lines core kind) is ∙ ap (λ t. cond t set.empty (b.lines core kind)) (eq-eqb core core refl)

  pub emptied_within : (kind : Kind) (t : Lines) → Within (a.lines core kind) t
  emptied_within kind t q i = never (set.contains (a.lines core kind) q) i
      (ap (λ s. set.contains s q) (emptied kind) ∙ set.contains-empty nat_cmp q)

  pub others_stay : (c : ℕ) → (eqb c core ≡ true → ⊥) → (kind : Kind) → a.lines c kind ≡ b.lines c kind
  others_stay c d kind =
      ap (λ x. x.lines c kind) is ∙ ap (λ t. cond t set.empty (b.lines c kind)) (fails (eqb c core) d)

  pub slots_stay : (c : ℕ) → (eqb c core ≡ true → ⊥) → a.slots c ≡ b.slots c
  slots_stay c d = ap (λ x. x.slots c) is ∙ ap (λ t. cond t (λ _. None) (b.slots c)) (fails (eqb c core) d)

module _ (a b : Content) (core : ℕ) (kind : Kind) (line : ℕ) (slots : ℕ → ℕ → Option ℕ)
    (is : a ≡ with_line b core kind line slots) where
  of_kind : (k : Kind) → a.lines core k ≡ cond (same_kind k kind) (set.insert (b.lines core k) line) (b.lines core k)
  of_kind k = ap (λ x. x.lines core k) is
      ∙ ap (λ t. cond (t && same_kind k kind) (set.insert (b.lines core k) line) (b.lines core k))
      (eq-eqb core core refl)

  here : a.lines core kind ≡ set.insert (b.lines core kind) line
  here = of_kind kind ∙ ap (λ t. cond t (set.insert (b.lines core kind) line) (b.lines core kind)) (kind_itself kind)

  pub added : set.contains (a.lines core kind) line ≡ true
  added = ap (λ s. set.contains s line) here ∙ newest (b.lines core kind) line

  pub keeps : (k : Kind) (q : ℕ) → set.contains (b.lines core k) q ≡ true → set.contains (a.lines core k) q ≡ true
  keeps k q i = ap (λ s. set.contains s q) (of_kind k)
      ∙ (elim (same_kind k kind)
      as (λ t. set.contains (cond t (set.insert (b.lines core k) line) (b.lines core k)) q ≡ true) [
        | true ↦ older (b.lines core k) line q i
        | false ↦ i
      ])

  pub still_within : (t : Kind → Lines) → set.contains (t kind) line ≡ true
      → ((k : Kind) → Within (b.lines core k) (t k))
      → (k : Kind) → Within (a.lines core k) (t k)
  still_within t there to k q i = ⊎_elim
      (λ (same : same_kind k kind ≡ true). ⊎_elim
      (λ (e : q ≡ line). ap (λ x. set.contains (t x) q) (same_kinds k kind same) ∙ ap (set.contains (t kind)) e ∙ there)
      (λ (d : q ≡ line → ⊥). to k q (sym (ap (λ s. set.contains s q) (of_kind k)
      ∙ ap (λ u. set.contains (cond u (set.insert (b.lines core k) line) (b.lines core k)) q) same
      ∙ inserted (b.lines core k) line q ∙ ap (λ u. u || set.contains (b.lines core k) q) (ne_eqb q line d)) ∙ i))
      (cases_eq q line))
      (λ (other : same_kind k kind ≡ false). to k q (sym (ap (λ s. set.contains s q) (of_kind k)
      ∙ ap (λ u. set.contains (cond u (set.insert (b.lines core k) line) (b.lines core k)) q) other) ∙ i))
      (tested (same_kind k kind))

  pub apart_stay : (c : ℕ) → (eqb c core ≡ true → ⊥) → (k : Kind) → a.lines c k ≡ b.lines c k
  apart_stay c d k = ap (λ x. x.lines c k) is
      ∙ ap (λ t. cond (t && same_kind k kind) (set.insert (b.lines c k) line) (b.lines c k)) (fails (eqb c core) d)

-- a core has no more lines of a kind than it has room for
within_room : (r : Rows) → AreCounted r
    → (core : ℕ) (kind : Kind) → set.len (lines_in r.entries core kind) ≤ by_kind r.read_lines r.write_lines kind
within_room r counted core Read =
    let read = counted.reads core in let most = counted.read_room core in omega (arith, read, most)
within_room r counted core Write =
    let written = counted.writes core in let most = counted.write_room core in omega (arith, written, most)

-- where another with as much room has the line, and all that are here, there is room for it
pub has_room : (r s : Rows) (core : ℕ) (kind : Kind) (line : ℕ) → AreCounted s
    → by_kind s.read_lines s.write_lines kind ≡ by_kind r.read_lines r.write_lines kind
    → Within (lines_in r.entries core kind) (lines_in s.entries core kind)
    → set.contains (lines_in s.entries core kind) line ≡ true
    → (not (set.contains (lines_in r.entries core kind) line)
    && leb (by_kind r.read_lines r.write_lines kind) (set.len (lines_in r.entries core kind))) ≡ true
    → ⊥
has_room r s core kind line counted room to there full =
    let told = both (not (set.contains (lines_in r.entries core kind) line))
    (leb (by_kind r.read_lines r.write_lines kind) (set.len (lines_in r.entries core kind))) full in
    let none = fails (set.contains (lines_in r.entries core kind) line)
    (λ t. never (not (set.contains (lines_in r.entries core kind) line)) told.0 (ap not t)) in
    let most = leb-true (by_kind r.read_lines r.write_lines kind) (set.len (lines_in r.entries core kind)) told.1 in
    let less = fewer_within (lines_among r.entries core kind) (lines_in s.entries core kind) line to none there in
    omega (arith, less, most, room, within_room s counted core kind)
