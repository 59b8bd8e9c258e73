-- A walk along a core's list, step by step.
use Rattle.std.proofs.Common.{◌≡◌, ℕ, ◌+◌, ◌-◌, ◌<◌, ◌≤◌, ◌&&◌, length, get_or, sym, ap, ◌∙◌, subst, arith}
use Rattle.std.proofs.Math.Logic.{∥∥₁_elim}
use Rattle.std.proofs.Props.{props}
use Rattle.tm_sets.specs.Threaded.{Rows, OnCore, after_on_core, AreThreaded, IsThreaded}
use Rattle.tm_sets.proofs.Counting.{count_le}
use Rattle.tm_sets.proofs.Walks.{Ahead, is_ahead, left_on, on_core, core_tells, all_ahead, left_less, still}

-- a walk along a core's list has come to the place told: what it has visited and what is left are no more than the row
pub record CoreWalk (r : Rows) (core at visited : ℕ) : Type 0 where
  pub threaded : IsThreaded r
  pub core_below : core < length r.core_heads
  pub there : (h : ℕ) → at ≡ h + 1 → OnCore r.entries core h
  pub visits : (rank : ℕ → ℕ) (top : ℕ) → AreThreaded r rank top
      → visited + left_on (on_core r.entries core) (length r.entries) rank at ≤ length r.entries

pub start_walk : (r : Rows) → IsThreaded r → (core : ℕ) → core < length r.core_heads
    → (at : ℕ) → at ≡ get_or r.core_heads core 0 → CoreWalk r core at 0
start_walk r threaded core core_below at is = record {
  threaded = threaded;
  core_below = core_below;
  there = λ h i. ∥∥₁_elim threaded (hlevel props) (λ w. (w.2.cores core core_below).head_on h (sym is ∙ i));
  visits =
      λ rank top t. omega (arith, count_le (λ e. on_core r.entries core e && is_ahead rank at e) (length r.entries));
}

pub start_ahead : (r : Rows) (core : ℕ) → core < length r.core_heads → (at : ℕ) → at ≡ get_or r.core_heads core 0
    → (rank : ℕ → ℕ) (top : ℕ) → AreThreaded r rank top → (e : ℕ) → OnCore r.entries core e → Ahead rank at e
start_ahead r core core_below at is rank top t e o =
    subst (λ k. Ahead rank k e) (sym is)
    (all_ahead (OnCore r.entries core) (on_core r.entries core) (length r.entries) (core_tells r.entries core)
    (get_or r.core_heads core 0) (after_on_core r.entries) rank (t.cores core core_below) e o)

module _ {r : Rows} {core at visited : ℕ} (w : CoreWalk r core at visited) where
  open w use {threaded, core_below, there, visits}

  -- from a place on the list it goes to the one after
  module _ (some : at ≡ at - 1 + 1) where
    pub at_place : OnCore r.entries core (at - 1)
    at_place = there (at - 1) some

    one_less : (rank : ℕ → ℕ) (top : ℕ) → AreThreaded r rank top
        → left_on (on_core r.entries core) (length r.entries) rank at
        ≡ left_on (on_core r.entries core) (length r.entries) rank (after_on_core r.entries (at - 1)) + 1
    one_less rank top t =
        left_less (OnCore r.entries core) (on_core r.entries core) (length r.entries) (core_tells r.entries core)
        (get_or r.core_heads core 0) (after_on_core r.entries) rank (t.cores core core_below) at (at - 1) some at_place

    pub next_walk : {next more : ℕ} → next ≡ after_on_core r.entries (at - 1) → more ≡ visited + 1
        → CoreWalk r core next more
    next_walk is one = record {
      threaded = threaded;
      core_below = core_below;
      there = λ g i. ∥∥₁_elim threaded (hlevel props)
          (λ v. (v.2.cores core core_below).after_on (at - 1) g at_place (sym is ∙ i));
      visits = λ rank top t. omega (
        arith,
        ap (left_on (on_core r.entries core) (length r.entries) rank) is,
        one_less rank top t,
        one,
        visits rank top t,
      );
    }

    pub go_ahead : {next : ℕ} → next ≡ after_on_core r.entries (at - 1)
        → (rank : ℕ → ℕ) (top : ℕ) → AreThreaded r rank top → (e : ℕ) → OnCore r.entries core e → (e ≡ at - 1 → ⊥)
        → Ahead rank at e → Ahead rank next e
    go_ahead is rank top t e o d a = subst (λ k. Ahead rank k e) (sym is)
        (still (OnCore r.entries core) (on_core r.entries core) (length r.entries) (core_tells r.entries core)
        (get_or r.core_heads core 0) (after_on_core r.entries) rank (t.cores core core_below) (at - 1) e at_place o d
        (a.below (at - 1) some))

    -- there is one more to be visited
    pub visits_less : visited < length r.entries
    visits_less = ∥∥₁_elim threaded (hlevel props) (λ v. omega (arith, one_less v.0 v.1 v.2, visits v.0 v.1 v.2))

  -- at the end nothing is ahead
  pub none_ahead : (e : ℕ) → at ≡ 0 → ((rank : ℕ → ℕ) (top : ℕ) → AreThreaded r rank top → Ahead rank at e) → ⊥
  none_ahead e z ahead = ∥∥₁_elim threaded (hlevel props) (λ v. (ahead v.0 v.1 v.2).some z)
