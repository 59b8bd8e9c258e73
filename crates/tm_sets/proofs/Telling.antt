-- The lines of a kind that a walk along a core's list has told, one after the other.
use Rattle.std.proofs.Common.{◌≡◌, ℕ, ◌+◌, ◌-◌, ◌<◌, true, false, ◌||◌, List, [], ◌∷◌, ◌++◌, length, get_or, sym, ap}
use Rattle.std.proofs.Common.{◌∙◌, ⊎_elim, refl, arith}
use Rattle.std.proofs.Math.Logic.{∥∥₁_elim}
use Rattle.std.proofs.Props.{props}
use Rattle.std.proofs.lemmas.Bool.{cases_eq, ne_eqb}
use Rattle.std.proofs.lemmas.List.{length_push}
use Rattle.std.specs.Ordering.{nat_cmp}
use Rattle.std.specs.FinSet as set
use Rattle.tm_sets.specs.declared.interface.Kind.{Kind}
use Rattle.tm_sets.specs.LineSet.{lines_of}
use Rattle.tm_sets.specs.Row.{entry_at, lines_in}
use Rattle.tm_sets.specs.Threaded.{Rows, OnCore, after_on_core, AreThreaded, IsThreaded, AreCounted}
use Rattle.tm_sets.proofs.Counting.{tested, never, fails}
use Rattle.tm_sets.proofs.CoreWalks.{CoreWalk, start_walk, start_ahead, at_place, next_walk, go_ahead, none_ahead}
use Rattle.tm_sets.proofs.Lists.{len_push, pushed}
use Rattle.tm_sets.proofs.Members.{place_of, stands}
use Rattle.tm_sets.proofs.Ranks.{told}
use Rattle.tm_sets.proofs.Same.{Within, same_sets, inserted, newest, older}
use Rattle.tm_sets.proofs.Walks.{Ahead}
use Rattle.tm_sets.proofs.Within.{there}

-- Each line told is the core's, and was told once; those of its entries that are not told are still ahead.
pub record Told (r : Rows) (core : ℕ) (kind : Kind) (lines : List ℕ) (at visited : ℕ) : Type 0 where
  pub walk : CoreWalk r core at visited
  pub within : Within (lines_of lines) (lines_in r.entries core kind)
  pub once : set.len (lines_of lines) ≡ length lines
  pub passed : (rank : ℕ → ℕ) (top : ℕ) → AreThreaded r rank top → (e : ℕ) → OnCore r.entries core e
      → (entry_at r.entries e).kind ≡ kind
      → set.contains (lines_of lines) (entry_at r.entries e).line ≡ true → Ahead rank at e → ⊥
  pub unseen : (rank : ℕ → ℕ) (top : ℕ) → AreThreaded r rank top → (e : ℕ) → OnCore r.entries core e
      → (entry_at r.entries e).kind ≡ kind
      → set.contains (lines_of lines) (entry_at r.entries e).line ≡ false → Ahead rank at e

pub start_telling : (r : Rows) → IsThreaded r → (core : ℕ) → core < length r.core_heads
    → (at : ℕ) → at ≡ get_or r.core_heads core 0
    → (kind : Kind) (lines : List ℕ) → lines ≡ [] → Told r core kind lines at 0
start_telling r threaded core below at is kind lines none = record {
  walk = start_walk r threaded core below at is;
  within = λ q i. never (set.contains (lines_of lines) q) i (empty q);
  once = ap (λ xs. set.len (lines_of xs)) none ∙ set.len-empty nat_cmp ∙ sym (ap length none);
  passed = λ rank top t e o k i a. never (set.contains (lines_of lines) (entry_at r.entries e).line) i
      (empty (entry_at r.entries e).line);
  unseen = λ rank top t e o k i. start_ahead r core below at is rank top t e o;
}
  where
    empty : (q : ℕ) → set.contains (lines_of lines) q ≡ false
    empty q = ap (λ xs. set.contains (lines_of xs) q) none ∙ set.contains-empty nat_cmp q

module _ {r : Rows} {core : ℕ} {kind : Kind} {lines : List ℕ} {at visited : ℕ} (w : Told r core kind lines at visited)
    (some : at ≡ at - 1 + 1) where
  open w use {walk, within, once, passed, unseen}

  abbrev pub line : ℕ
  line = (entry_at r.entries (at - 1)).line

  -- what is ahead of the next place comes after this one
  later : {next : ℕ} → next ≡ after_on_core r.entries (at - 1) → (rank : ℕ → ℕ) (top : ℕ) → AreThreaded r rank top
      → (e : ℕ) → Ahead rank next e
      → rank e < rank (at - 1)
  later {next} is rank top t e a = ⊎_elim
      (λ (z : next ≡ 0). absurd (a.some z))
      (λ (v : (g : ℕ) × (next ≡ g + 1)). let x = a.below v.0 v.1 in
      let y = (t.cores core walk.core_below).falls (at - 1) v.0 (at_place walk some) (sym is ∙ v.1) in
      omega (arith, x, y))
      (told next)

  before : {next : ℕ} → next ≡ after_on_core r.entries (at - 1) → (rank : ℕ → ℕ) (top : ℕ) → AreThreaded r rank top
      → (e : ℕ) → Ahead rank next e
      → Ahead rank at e
  before is rank top t e a = record {
    some = λ z. omega (arith, some, z);
    below = λ h i. let same : h ≡ at - 1 = omega (arith, i) in let r : rank h ≡ rank (at - 1) = ap rank same in
        let x = later is rank top t e a in omega (arith, r, x);
  }

  itself : (rank : ℕ → ℕ) → Ahead rank at (at - 1)
  itself rank = record {
    some = λ z. omega (arith, some, z);
    below = λ h i. let same : h ≡ at - 1 = omega (arith, i) in let r : rank h ≡ rank (at - 1) = ap rank same in
        omega (arith, r);
  }

  -- past an entry of the other kind
  pub pass_by : {next more : ℕ} → next ≡ after_on_core r.entries (at - 1) → more ≡ visited + 1
      → ((entry_at r.entries (at - 1)).kind ≡ kind → ⊥) → Told r core kind lines next more
  pass_by is one other = record {
    walk = next_walk walk some is one;
    within = within;
    once = once;
    passed = λ rank top t e o k i a. passed rank top t e o k i (before is rank top t e a);
    unseen = λ rank top t e o k i. go_ahead walk some is rank top t e o
        (λ s. other (sym (ap (λ p. (entry_at r.entries p).kind) s) ∙ k))
        (unseen rank top t e o k i);
  }

  new : (entry_at r.entries (at - 1)).kind ≡ kind → set.contains (lines_of lines) line ≡ false
  new is_kind = fails (set.contains (lines_of lines) line)
      (λ i. ∥∥₁_elim walk.threaded (hlevel props)
      (λ v. passed v.0 v.1 v.2 (at - 1) (at_place walk some) is_kind i (itself v.0)))

  -- past an entry of the kind, which is told
  pub tell : {next more : ℕ} → AreCounted r → next ≡ after_on_core r.entries (at - 1) → more ≡ visited + 1
      → (entry_at r.entries (at - 1)).kind ≡ kind → Told r core kind (lines ++ line ∷ []) next more
  tell counted is one is_kind = record {
    walk = next_walk walk some is one;
    within = λ q i. ⊎_elim
        (λ (e : q ≡ line). ap (set.contains (lines_in r.entries core kind)) e
        ∙ sym (ap (λ k. set.contains (lines_in r.entries core k) line) is_kind)
        ∙ there r.entries core (at - 1) (entry_at r.entries (at - 1)) (at_place walk some) refl)
        (λ (d : q ≡ line → ⊥). within q (other q d i))
        (cases_eq q line);
    once = ap set.len (pushed lines line) ∙ len_push (lines_of lines) line (new is_kind) ∙ ap (λ n. n + 1) once
        ∙ sym (length_push lines line);
    passed = λ rank top t e o k i a. ⊎_elim
        (λ (s : (entry_at r.entries e).line ≡ line).
        let place = at_place walk some in
        let same : e ≡ at - 1 =
        counted.once e (at - 1) o.0 place.0 o.1 place.1 (o.2 ∙ sym place.2) (k ∙ sym is_kind) s in
        let x = later is rank top t e a in
        let y : rank e ≡ rank (at - 1) = ap rank same in
        omega (arith, x, y))
        (λ (d : (entry_at r.entries e).line ≡ line → ⊥). passed rank top t e o k (other (entry_at r.entries e).line d i)
        (before is rank top t e a))
        (cases_eq (entry_at r.entries e).line line);
    unseen = λ rank top t e o k i. go_ahead walk some is rank top t e o
        (λ s. never (set.contains (lines_of (lines ++ line ∷ [])) (entry_at r.entries e).line)
        (ap (λ p. set.contains (lines_of (lines ++ line ∷ [])) (entry_at r.entries p).line) s
        ∙ ap (λ x. set.contains x line) (pushed lines line) ∙ newest (lines_of lines) line) i)
        (unseen rank top t e o k (fails (set.contains (lines_of lines) (entry_at r.entries e).line) (λ y.
        never (set.contains (lines_of (lines ++ line ∷ [])) (entry_at r.entries e).line)
        (ap (λ x. set.contains x (entry_at r.entries e).line) (pushed lines line)
        ∙ older (lines_of lines) line (entry_at r.entries e).line y) i)));
  }
    where
      other : (q : ℕ) → (q ≡ line → ⊥) → set.contains (lines_of (lines ++ line ∷ [])) q ≡ true
          → set.contains (lines_of lines) q ≡ true
      other q d i = sym (ap (λ x. set.contains x q) (pushed lines line) ∙ inserted (lines_of lines) line q
          ∙ ap (λ b. b || set.contains (lines_of lines) q) (ne_eqb q line d)) ∙ i

-- at the end all are told
pub all_told : {r : Rows} {core : ℕ} {kind : Kind} {lines : List ℕ} {at visited : ℕ}
    → Told r core kind lines at visited → at ≡ 0
    → lines_of lines ≡ lines_in r.entries core kind
all_told {r} {core} {kind} {lines} w z = same_sets (lines_of lines) (lines_in r.entries core kind) w.within (λ q i.
    let p = place_of r.entries core kind q i in
    let s = stands (entry_at r.entries p.place) core kind q p.is in
    ⊎_elim
    (λ (t : set.contains (lines_of lines) q ≡ true). t)
    (λ (f : set.contains (lines_of lines) q ≡ false).
    absurd
    (none_ahead w.walk p.place z (λ rank top t. w.unseen rank top t p.place (p.below, s.is_held, s.at_core) s.at_kind
    (ap (set.contains (lines_of lines)) s.at_line ∙ f))))
    (tested (set.contains (lines_of lines) q)))
