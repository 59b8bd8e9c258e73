-- How far a walk along a list of a row has come: along a line's, or a core's.
use Rattle.std.proofs.Common.{◌≡◌, ℕ, zero, suc, ◌+◌, ◌<◌, ◌≤◌, Bool, true, false, cond, eqb, leb, ◌&&◌, List, length}
use Rattle.std.proofs.Common.{get_or, refl, sym, ap, ◌∙◌, ⊎_elim, ◌⊎◌, inl, inr, subst, arith}
use Rattle.std.proofs.lemmas.Bool.{eq-eqb}
use Rattle.tm_sets.specs.declared.row.Entry.{Entry}
use Rattle.tm_sets.specs.Count.{count_below}
use Rattle.tm_sets.specs.Ranked.{IsRanked}
use Rattle.tm_sets.specs.Row.{entry_at}
use Rattle.tm_sets.specs.Threaded.{held, OnLine, OnCore, on_line}
use Rattle.tm_sets.proofs.Counting.{never, both, as_one, fails, same_test, equal, count_same, count_less, count_none}
use Rattle.tm_sets.proofs.Ranks.{told}

-- the place is still to be visited: its rank is at most that of the place that the walk has come to
pub record Ahead (rank : ℕ → ℕ) (at e : ℕ) : Type 0 where
  pub some : at ≡ 0 → ⊥
  pub below : (h : ℕ) → at ≡ h + 1 → rank e ≤ rank h

-- the same as a test
pub is_ahead : (ℕ → ℕ) → ℕ → ℕ → Bool
is_ahead rank zero e = false
is_ahead rank (suc h) e = leb (rank e) (rank h)

leb_true : (a b : ℕ) → leb a b ≡ true → a ≤ b
leb_true a b t = search (Rattle.std.proofs.Common.rules, t)

le_leb : (a b : ℕ) → a ≤ b → leb a b ≡ true
le_leb a b h = search Rattle.std.proofs.Common.rules

pub ahead : (rank : ℕ → ℕ) (at e : ℕ) → is_ahead rank at e ≡ true → Ahead rank at e
unfolding is_ahead
ahead rank zero e t = never false t refl
ahead rank (suc h) e t = record {
  some = λ z. omega arith;
  below = λ i s. let same : i ≡ h = omega arith in let r : rank i ≡ rank h = ap rank same in
      let l = leb_true (rank e) (rank h) t in omega arith;
}

pub is_so : (rank : ℕ → ℕ) (at e : ℕ) → Ahead rank at e → is_ahead rank at e ≡ true
unfolding is_ahead
is_so rank zero e a = absurd (a.some refl)
is_so rank (suc h) e a = le_leb (rank e) (rank h) (a.below h (omega arith))

pub none_ahead : (rank : ℕ → ℕ) (at e : ℕ) → at ≡ 0 → is_ahead rank at e ≡ false
none_ahead rank at e z = fails (is_ahead rank at e) (λ t. (ahead rank at e t).some z)

-- a test of which places below n are on a list
pub record Tells (list : ℕ → Type 0) (test : ℕ → Bool) (n : ℕ) : Type 0 where
  pub below : (e : ℕ) → list e → e < n
  pub on : (e : ℕ) → e < n → test e ≡ true → list e
  pub on_test : (e : ℕ) → list e → test e ≡ true

-- how many places on the list are still to be visited
abbrev pub left_on : (ℕ → Bool) → ℕ → (ℕ → ℕ) → ℕ → ℕ
left_on test n rank at = count_below (λ e. test e && is_ahead rank at e) n

module _ (list : ℕ → Type 0) (test : ℕ → Bool) (n : ℕ) (tells : Tells list test n) (head : ℕ) (after rank : ℕ → ℕ)
    (l : IsRanked list head after rank) where
  -- at the head all are ahead
  pub all_ahead : (e : ℕ) → list e → Ahead rank head e
  all_ahead e o = record { some = l.some e o; below = λ h i. l.first e h o i }

  pub left_all : left_on test n rank head ≡ count_below test n
  left_all = count_same (λ e. test e && is_ahead rank head e) test n (λ e b.
      same_test (test e && is_ahead rank head e) (test e)
      (λ t. (both (test e) (is_ahead rank head e) t).0)
      (λ t. as_one (test e) (is_ahead rank head e) t (is_so rank head e (all_ahead e (tells.on e b t)))))

  -- another place that was ahead still is after the next
  pub still : (h e : ℕ) → list h → list e → (e ≡ h → ⊥) → rank e ≤ rank h → Ahead rank (after h) e
  still h e o p d le =
      let less : rank e < rank h = (let apart : rank e ≡ rank h → ⊥ = λ s. d (l.apart e h p o s) in omega arith) in
      record { some = l.goes_on h e o p less; below = λ g i. l.next h e g o p less i }

  pub left_less : (at h : ℕ) → at ≡ h + 1 → list h → left_on test n rank at ≡ left_on test n rank (after h) + 1
  left_less at h is o =
      count_less (λ e. test e && is_ahead rank at e) (λ e. test e && is_ahead rank (after h) e) n h (tells.below h o)
      (as_one (test h) (is_ahead rank at h) (tells.on_test h o) (is_so rank at h (record {
        some = λ z. omega arith;
        below = λ i s. let same : i ≡ h = omega arith in let r : rank i ≡ rank h = ap rank same in omega arith;
      })))
      (fails (test h && is_ahead rank (after h) h)
      (λ t. passed h (ahead rank (after h) h (both (test h) (is_ahead rank (after h) h) t).1) o refl))
      (λ e b d. same_test (test e && is_ahead rank at e) (test e && is_ahead rank (after h) e)
      (λ t. let w = both (test e) (is_ahead rank at e) t in
      as_one (test e) (is_ahead rank (after h) e) w.0
      (is_so rank (after h) e (still h e o (tells.on e b w.0) d ((ahead rank at e w.1).below h is))))
      (λ t. let w = both (test e) (is_ahead rank (after h) e) t in
      let a = ahead rank (after h) e w.1 in
      as_one (test e) (is_ahead rank at e) w.0 (is_so rank at e (record {
        some = λ z. omega arith;
        below = λ i s.
            let same : i ≡ h = omega arith in let r : rank i ≡ rank h = ap rank same in
            let c = before e a in omega arith;
      }))))
    where
      before : (e : ℕ) → Ahead rank (after h) e → rank e < rank h
      before e a = ⊎_elim (λ (z : after h ≡ 0). absurd (a.some z))
          (λ (w : (g : ℕ) × (after h ≡ g + 1)). let x = a.below w.0 w.1 in let y = l.falls h w.0 o w.1 in omega arith)
          (told (after h))

      passed : (e : ℕ) → Ahead rank (after h) e → list e → e ≡ h → ⊥
      passed e a p s = let x = before e a in let r : rank e ≡ rank h = ap rank s in omega arith

pub left_none : (test : ℕ → Bool) (n : ℕ) (rank : ℕ → ℕ) (at : ℕ) → at ≡ 0 → left_on test n rank at ≡ 0
left_none test n rank at z = count_none (λ e. test e && is_ahead rank at e) n (λ e b.
    fails (test e && is_ahead rank at e) (λ t. (ahead rank at e (both (test e) (is_ahead rank at e) t).1).some z))

pub line_tells : (es : List Entry) (line : ℕ) → Tells (OnLine es line) (on_line es line) (length es)
line_tells es line = record {
  below = λ e o. o.0;
  on = λ e b t. let w = both (held es e) (eqb (entry_at es e).line line) t in
      (b, w.0, equal (entry_at es e).line line w.1);
  on_test = λ e o. as_one (held es e) (eqb (entry_at es e).line line) o.1 (eq-eqb (entry_at es e).line line o.2);
}

abbrev pub on_core : List Entry → ℕ → ℕ → Bool
on_core es core e = held es e && eqb (entry_at es e).core core

pub core_tells : (es : List Entry) (core : ℕ) → Tells (OnCore es core) (on_core es core) (length es)
core_tells es core = record {
  below = λ e o. o.0;
  on = λ e b t. let w = both (held es e) (eqb (entry_at es e).core core) t in
      (b, w.0, equal (entry_at es e).core core w.1);
  on_test = λ e o. as_one (held es e) (eqb (entry_at es e).core core) o.1 (eq-eqb (entry_at es e).core core o.2);
}
