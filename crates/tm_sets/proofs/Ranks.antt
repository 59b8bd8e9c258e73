-- What becomes of a threaded list when a place comes to it or leaves it.
use Rattle.std.proofs.Common.{◌≡◌, ℕ, zero, suc, ◌+◌, ◌<◌, ◌≤◌, List, length, get_or, set, refl, sym, ap, ◌∙◌, ⊎_elim}
use Rattle.std.proofs.Common.{◌⊎◌, inl, inr, subst, arith}
use Rattle.std.proofs.lemmas.Bool.{cases_eq}
use Rattle.std.proofs.lemmas.List.{get_or-set_same, get_or-set_other}
use Rattle.tm_sets.specs.Ranked.{IsRanked, GoesBack}

-- a list with its links back
pub record IsList (on : ℕ → Type 0) (head : ℕ) (after before rank : ℕ → ℕ) : Type 0 where
  pub ranked : IsRanked on head after rank
  pub back : GoesBack on head after before

-- what holds of each list and its head, where one head is set
pub heads_set : (P : ℕ → ℕ → Type 0) (heads : List ℕ) (its head : ℕ) → its < length heads → P its head
    → ((v : ℕ) → (v ≡ its → ⊥) → P v (get_or heads v 0)) → (v : ℕ) → P v (get_or (set heads its head) v 0)
heads_set P heads its head below here others v = ⊎_elim
    (λ (s : v ≡ its).
    subst (λ k. P k (get_or (set heads its head) k 0)) (sym s)
    (subst (P its) (sym (get_or-set_same heads its head 0 below)) here))
    (λ (s : v ≡ its → ⊥). subst (P v) (sym (get_or-set_other heads its v head 0 s)) (others v s))
    (cases_eq v its)

-- none, or a place
pub told : (t : ℕ) → (t ≡ 0) ⊎ ((h : ℕ) × (t ≡ h + 1))
told zero = inl refl
told (suc h) = inr (h, omega arith)

-- a list of which nothing changed
module _ (on on' : ℕ → Type 0) (after after' rank rank' : ℕ → ℕ) (to : (e : ℕ) → on' e → on e)
    (from : (e : ℕ) → on e → on' e)
    (after_same : (e : ℕ) → on' e → after' e ≡ after e) (rank_same : (e : ℕ) → on' e → rank' e ≡ rank e) where
  kept : (head : ℕ) → IsRanked on head after rank → IsRanked on' head after' rank'
  kept head l = record {
    head_on = λ h i. from h (l.head_on h i);
    some = λ e o i. l.some e (to e o) i;
    first = λ e h o i. let a = rank_same e o in let b = rank_same h (from h (l.head_on h i)) in
        let c = l.first e h (to e o) i in omega arith;
    after_on = λ e f o i. from f (l.after_on e f (to e o) (sym (after_same e o) ∙ i));
    falls = λ e f o i.
        let j = sym (after_same e o) ∙ i in
        let a = rank_same e o in let b = rank_same f (from f (l.after_on e f (to e o) j)) in
        let c = l.falls e f (to e o) j in omega arith;
    goes_on = λ e f o p less i.
        let a = rank_same e o in let b = rank_same f p in
        l.goes_on e f (to e o) (to f p) (omega arith) (sym (after_same e o) ∙ i);
    next = λ e f g o p less i.
        let j = sym (after_same e o) ∙ i in
        let a = rank_same e o in let b = rank_same f p in let c = rank_same g (from g (l.after_on e g (to e o) j)) in
        let d = l.next e f g (to e o) (to f p) (omega arith) j in omega arith;
    apart = λ e f o p i. l.apart e f (to e o) (to f p) (sym (rank_same e o) ∙ i ∙ rank_same f p);
  }

  kept_back : (head : ℕ) (before before' : ℕ → ℕ) → ((e : ℕ) → on' e → before' e ≡ before e)
      → IsRanked on head after rank → GoesBack on head after before → GoesBack on' head after' before'
  kept_back head before before' before_same l b = record {
    first = λ h i. before_same h (from h (l.head_on h i)) ∙ b.first h i;
    back = λ e f o i. let j = sym (after_same e o) ∙ i in
        before_same f (from f (l.after_on e f (to e o) j)) ∙ b.back e f (to e o) j;
    at_head = λ e o i. b.at_head e (to e o) (sym (before_same e o) ∙ i);
    before_on = λ e f o i. from f (b.before_on e f (to e o) (sym (before_same e o) ∙ i));
    itself = λ e f o i. let j = sym (before_same e o) ∙ i in
        after_same f (from f (b.before_on e f (to e o) j)) ∙ b.itself e f (to e o) j;
  }

  pub kept_list : {head : ℕ} {before before' : ℕ → ℕ} → ((e : ℕ) → on' e → before' e ≡ before e)
      → IsList on head after before rank → IsList on' head after' before' rank'
  kept_list {head} {before} {before'} before_same l =
      record { ranked = kept head l.ranked; back = kept_back head before before' before_same l.ranked l.back }

-- a list with a new place at its head, of the highest rank
module _ (on on' : ℕ → Type 0) (head n : ℕ) (after after' rank rank' : ℕ → ℕ)
    (is : (e : ℕ) → on' e → (e ≡ n) ⊎ on e) (from : (e : ℕ) → on e → on' e) (itself : on' n) (new : on n → ⊥)
    (after_new : after' n ≡ head) (after_same : (e : ℕ) → on e → after' e ≡ after e)
    (rank_same : (e : ℕ) → on e → rank' e ≡ rank e) (highest : (e : ℕ) → on e → rank e < rank' n) where
  pub pushed : IsRanked on head after rank → IsRanked on' (n + 1) after' rank'
  pushed l = record {
    head_on = λ h i. let e : h ≡ n = omega arith in subst' h e;
    some = λ e o i. omega arith;
    first = λ e h o i. let q : h ≡ n = omega arith in let r : rank' h ≡ rank' n = ap rank' q in
        ⊎_elim
        (λ (s : e ≡ n). let t : rank' e ≡ rank' n = ap rank' s in omega arith)
        (λ (s : on e). omega (arith, rank_same e s, highest e s))
        (is e o);
    after_on = λ e f o i. from f (after_old e f o i);
    falls = λ e f o i.
        let p : on f = after_old e f o i in let b = rank_same f p in
        ⊎_elim
        (λ (s : e ≡ n). let t : rank' e ≡ rank' n = ap rank' s in let u = highest f p in omega arith)
        (λ (s : on e). let a = rank_same e s in let c = l.falls e f s (sym (after_same e s) ∙ i) in omega arith)
        (is e o);
    goes_on = λ e f o p less i.
        let q : on f = lower e f o p less in
        ⊎_elim
        (λ (s : e ≡ n). l.some f q (sym after_new ∙ sym (ap after' s) ∙ i))
        (λ (s : on e). let a = rank_same e s in let b = rank_same f q in
        l.goes_on e f s q (omega arith) (sym (after_same e s) ∙ i))
        (is e o);
    next = λ e f g o p less i.
        let q : on f = lower e f o p less in let b = rank_same f q in
        ⊎_elim
        (λ (s : e ≡ n).
        let j : head ≡ g + 1 = sym after_new ∙ sym (ap after' s) ∙ i in
        omega (arith, b, rank_same g (l.head_on g j), l.first f g q j))
        (λ (s : on e).
        let a = rank_same e s in
        let j = sym (after_same e s) ∙ i in
        omega (arith, a, b, rank_same g (l.after_on e g s j), l.next e f g s q (omega arith) j))
        (is e o);
    apart = λ e f o p i. ⊎_elim
        (λ (s : e ≡ n). ⊎_elim
        (λ (t : f ≡ n). s ∙ sym t)
        (λ (t : on f). let u : rank' e ≡ rank' n = ap rank' s in let v = rank_same f t in let w = highest f t in
        absurd (omega arith))
        (is f p))
        (λ (s : on e). ⊎_elim
        (λ (t : f ≡ n). let u : rank' f ≡ rank' n = ap rank' t in let v = rank_same e s in let w = highest e s in
        absurd (omega arith))
        (λ (t : on f). l.apart e f s t (sym (rank_same e s) ∙ i ∙ rank_same f t))
        (is f p))
        (is e o);
  }
    where
      subst' : (h : ℕ) → h ≡ n → on' h
      subst' h e = subst on' (sym e) itself

      after_old : (e f : ℕ) → on' e → after' e ≡ f + 1 → on f
      after_old e f o i = ⊎_elim
          (λ (s : e ≡ n). l.head_on f (sym after_new ∙ sym (ap after' s) ∙ i))
          (λ (s : on e). l.after_on e f s (sym (after_same e s) ∙ i))
          (is e o)

      lower : (e f : ℕ) → on' e → on' f → rank' f < rank' e → on f
      lower e f o p less = ⊎_elim
          (λ (t : f ≡ n). let u : rank' f ≡ rank' n = ap rank' t in absurd (⊎_elim
          (λ (s : e ≡ n). let v : rank' e ≡ rank' n = ap rank' s in omega arith)
          (λ (s : on e). let v = rank_same e s in let w = highest e s in omega arith)
          (is e o)))
          (λ (t : on f). t)
          (is f p)

  pushed_back : (before before' : ℕ → ℕ) → before' n ≡ 0 → ((e : ℕ) → on e → head ≡ e + 1 → before' e ≡ n + 1)
      → ((e : ℕ) → on e → (head ≡ e + 1 → ⊥) → before' e ≡ before e)
      → IsRanked on head after rank → GoesBack on head after before → GoesBack on' (n + 1) after' before'
  pushed_back before before' none at_old others l b = record {
    first = λ h i. let e : h ≡ n = omega arith in ap before' e ∙ none;
    back = λ e f o i. ⊎_elim
        (λ (s : e ≡ n). let j : head ≡ f + 1 = sym after_new ∙ sym (ap after' s) ∙ i in
        at_old f (l.head_on f j) j ∙ ap (λ k. k + 1) (sym s))
        (λ (s : on e). let j = sym (after_same e s) ∙ i in let p : on f = l.after_on e f s j in
        let back : before f ≡ e + 1 = b.back e f s j in
        others f p (λ k. let z : before f ≡ 0 = b.first f k in omega arith) ∙ back)
        (is e o);
    at_head = λ e o i. ⊎_elim
        (λ (s : e ≡ n). omega arith)
        (λ (s : on e). absurd (⊎_elim
        (λ (k : head ≡ e + 1). let z = at_old e s k in omega arith)
        (λ (k : head ≡ e + 1 → ⊥). k (b.at_head e s (sym (others e s k) ∙ i)))
        (cases_eq head (e + 1))))
        (is e o);
    before_on = λ e f o i. ⊎_elim
        (λ (s : e ≡ n). let z : before' e ≡ 0 = ap before' s ∙ none in absurd (omega arith))
        (λ (s : on e). ⊎_elim
        (λ (k : head ≡ e + 1). let z = at_old e s k in let q : f ≡ n = omega arith in subst on' (sym q) itself)
        (λ (k : head ≡ e + 1 → ⊥). from f (b.before_on e f s (sym (others e s k) ∙ i)))
        (cases_eq head (e + 1)))
        (is e o);
    itself = λ e f o i. ⊎_elim
        (λ (s : e ≡ n). let z : before' e ≡ 0 = ap before' s ∙ none in absurd (omega arith))
        (λ (s : on e). ⊎_elim
        (λ (k : head ≡ e + 1). let z = at_old e s k in let q : f ≡ n = omega arith in ap after' q ∙ after_new ∙ k)
        (λ (k : head ≡ e + 1 → ⊥). let j = sym (others e s k) ∙ i in
        after_same f (b.before_on e f s j) ∙ b.itself e f s j)
        (cases_eq head (e + 1)))
        (is e o);
  }

  pub pushed_list : {before before' : ℕ → ℕ} → before' n ≡ 0 → ((e : ℕ) → on e → head ≡ e + 1 → before' e ≡ n + 1)
      → ((e : ℕ) → on e → (head ≡ e + 1 → ⊥) → before' e ≡ before e) → IsList on head after before rank
      → IsList on' (n + 1) after' before' rank'
  pushed_list {before} {before'} none at_old others l =
      record { ranked = pushed l.ranked; back = pushed_back before before' none at_old others l.ranked l.back }

-- a list that has lost a place, and links to and fro over it
module _ (on on' : ℕ → Type 0) (head n : ℕ) (after after' before before' rank rank' : ℕ → ℕ)
    (to : (e : ℕ) → on' e → on e) (from : (e : ℕ) → on e → (e ≡ n → ⊥) → on' e) (gone : on' n → ⊥) (was : on n)
    (over : (e : ℕ) → on' e → after e ≡ n + 1 → after' e ≡ after n)
    (after_same : (e : ℕ) → on' e → (after e ≡ n + 1 → ⊥) → after' e ≡ after e)
    (rank_same : (e : ℕ) → on' e → rank' e ≡ rank e) (l : IsRanked on head after rank) where
  other : (e : ℕ) → on' e → e ≡ n → ⊥
  other e o i = gone (subst on' i o)

  -- the place after, as it was: never itself, and never the lost one
  step : (e f : ℕ) → on' e → after' e ≡ f + 1
      → (on f × (f ≡ n → ⊥)) × (rank f < rank e) × ((x : ℕ) → on' x → rank x < rank e → rank x ≤ rank f)
  step e f o i = ⊎_elim
      (λ (s : after e ≡ n + 1).
      let j : after n ≡ f + 1 = sym (over e o s) ∙ i in
      let a = l.falls e n (to e o) s in
      let b = l.falls n f was j in (
        (l.after_on n f was j, λ q. let z : rank f ≡ rank n = ap rank q in omega arith),
        omega arith,
        λ x p less.
            let c : rank x ≤ rank n = l.next e x n (to e o) (to x p) less s in
            let d : rank x ≡ rank n → ⊥ = λ k. other x p (l.apart x n (to x p) was k) in
            l.next n x f was (to x p) (omega arith) j,
      ))
      (λ (s : after e ≡ n + 1 → ⊥).
      let j : after e ≡ f + 1 = sym (after_same e o s) ∙ i in (
        (l.after_on e f (to e o) j, λ q. s (j ∙ ap (λ k. k + 1) q)),
        l.falls e f (to e o) j,
        λ x p less. l.next e x f (to e o) (to x p) less j,
      ))
      (cases_eq (after e) (n + 1))

  -- a list that goes on still does
  ends : (e f : ℕ) → on' e → on' f → rank f < rank e → after' e ≡ 0 → ⊥
  ends e f o p less i = ⊎_elim
      (λ (s : after e ≡ n + 1).
      let c : rank f ≤ rank n = l.next e f n (to e o) (to f p) less s in
      let d : rank f ≡ rank n → ⊥ = λ k. other f p (l.apart f n (to f p) was k) in
      l.goes_on n f was (to f p) (omega arith) (sym (over e o s) ∙ i))
      (λ (s : after e ≡ n + 1 → ⊥). l.goes_on e f (to e o) (to f p) less (sym (after_same e o s) ∙ i))
      (cases_eq (after e) (n + 1))

  -- with the head that it has now
  pub lost : (head' : ℕ) → (head ≡ n + 1 → head' ≡ after n) → ((head ≡ n + 1 → ⊥) → head' ≡ head)
      → IsRanked on' head' after' rank'
  lost head' moved stays = record {
    head_on = λ h i. let s = start h i in from h s.0.0 s.0.1;
    some = λ e o i. ⊎_elim
        (λ (s : head ≡ n + 1).
        let c : rank e ≤ rank n = l.first e n (to e o) s in
        let d : rank e ≡ rank n → ⊥ = λ k. other e o (l.apart e n (to e o) was k) in
        l.goes_on n e was (to e o) (omega arith) (sym (moved s) ∙ i))
        (λ (s : head ≡ n + 1 → ⊥). l.some e (to e o) (sym (stays s) ∙ i))
        (cases_eq head (n + 1));
    first = λ e h o i. let s = start h i in let a = rank_same e o in let b = rank_same h (from h s.0.0 s.0.1) in
        let c = s.1 e o in omega arith;
    after_on = λ e f o i. let s = step e f o i in from f s.0.0 s.0.1;
    falls = λ e f o i. let s = step e f o i in let a = rank_same e o in let b = rank_same f (from f s.0.0 s.0.1) in
        let c = s.1 in omega arith;
    goes_on = λ e f o p less i. let a = rank_same e o in let b = rank_same f p in ends e f o p (omega arith) i;
    next = λ e f g o p less i.
        let s = step e g o i in
        let a = rank_same e o in let b = rank_same f p in
        omega (arith, a, b, rank_same g (from g s.0.0 s.0.1), s.2 f p (omega arith));
    apart = λ e f o p i. l.apart e f (to e o) (to f p) (sym (rank_same e o) ∙ i ∙ rank_same f p);
  }
    where
      start : (h : ℕ) → head' ≡ h + 1 → (on h × (h ≡ n → ⊥)) × ((e : ℕ) → on' e → rank e ≤ rank h)
      start h i = ⊎_elim
          (λ (s : head ≡ n + 1).
          let j : after n ≡ h + 1 = sym (moved s) ∙ i in
          let b = l.falls n h was j in (
            (l.after_on n h was j, λ q. let z : rank h ≡ rank n = ap rank q in omega arith),
            λ e o.
                let c : rank e ≤ rank n = l.first e n (to e o) s in
                let d : rank e ≡ rank n → ⊥ = λ k. other e o (l.apart e n (to e o) was k) in
                l.next n e h was (to e o) (omega arith) j,
          ))
          (λ (s : head ≡ n + 1 → ⊥).
          let j : head ≡ h + 1 = sym (stays s) ∙ i in
          ((l.head_on h j, λ q. s (j ∙ ap (λ k. k + 1) q)), λ e o. l.first e h (to e o) j))
          (cases_eq head (n + 1))

  lost_back : (head' : ℕ) → (head ≡ n + 1 → head' ≡ after n) → ((head ≡ n + 1 → ⊥) → head' ≡ head)
      → ((e : ℕ) → on' e → after n ≡ e + 1 → before' e ≡ before n)
      → ((e : ℕ) → on' e → (after n ≡ e + 1 → ⊥) → before' e ≡ before e)
      → GoesBack on head after before → GoesBack on' head' after' before'
  lost_back head' moved stays around before_same b = record {
    first = λ h i. ⊎_elim
        (λ (s : head ≡ n + 1).
        let j : after n ≡ h + 1 = sym (moved s) ∙ i in
        around h (stays_on h j) j ∙ b.first n s)
        (λ (s : head ≡ n + 1 → ⊥).
        let j : head ≡ h + 1 = sym (stays s) ∙ i in
        let o : on' h = from h (l.head_on h j) (λ q. s (j ∙ ap (λ k. k + 1) q)) in
        before_same h o (λ k. let x : before h ≡ n + 1 = b.back n h was k in let y = b.first h j in omega arith)
        ∙ b.first h j)
        (cases_eq head (n + 1));
    back = λ e f o i. ⊎_elim
        (λ (s : after e ≡ n + 1).
        let j : after n ≡ f + 1 = sym (over e o s) ∙ i in
        around f (stays_on f j) j ∙ b.back e n (to e o) s)
        (λ (s : after e ≡ n + 1 → ⊥).
        let j : after e ≡ f + 1 = sym (after_same e o s) ∙ i in
        let p : on' f = from f (l.after_on e f (to e o) j) (λ q. s (j ∙ ap (λ k. k + 1) q)) in
        let x : before f ≡ e + 1 = b.back e f (to e o) j in
        before_same f p (λ k. let y : before f ≡ n + 1 = b.back n f was k in other e o (omega arith)) ∙ x)
        (cases_eq (after e) (n + 1));
    at_head = λ e o i. ⊎_elim
        (λ (k : after n ≡ e + 1). let s : head ≡ n + 1 = b.at_head n was (sym (around e o k) ∙ i) in moved s ∙ k)
        (λ (k : after n ≡ e + 1 → ⊥). let j : head ≡ e + 1 = b.at_head e (to e o) (sym (before_same e o k) ∙ i) in
        stays (λ s. other e o (omega arith)) ∙ j)
        (cases_eq (after n) (e + 1));
    before_on = λ e f o i. (pair e f o i).0;
    itself = λ e f o i. (pair e f o i).1;
  }
    where
      stays_on : (h : ℕ) → after n ≡ h + 1 → on' h
      stays_on h j = let z = l.falls n h was j in
          from h (l.after_on n h was j) (λ q. let y : rank h ≡ rank n = ap rank q in omega arith)

      pair : (e f : ℕ) → on' e → before' e ≡ f + 1 → on' f × (after' f ≡ e + 1)
      pair e f o i = ⊎_elim
          (λ (k : after n ≡ e + 1).
          let j : before n ≡ f + 1 = sym (around e o k) ∙ i in
          let a : after f ≡ n + 1 = b.itself n f was j in
          let z = l.falls f n (b.before_on n f was j) a in
          let p : on' f = from f (b.before_on n f was j) (λ q. let y : rank f ≡ rank n = ap rank q in omega arith) in
          (p, over f p a ∙ k))
          (λ (k : after n ≡ e + 1 → ⊥).
          let j : before e ≡ f + 1 = sym (before_same e o k) ∙ i in
          let a : after f ≡ e + 1 = b.itself e f (to e o) j in
          let p : on' f = from f (b.before_on e f (to e o) j) (λ q. k (ap after (sym q) ∙ a)) in
          (p, after_same f p (λ s. other e o (omega arith)) ∙ a))
          (cases_eq (after n) (e + 1))

  pub lost_list : {head' : ℕ} → (head ≡ n + 1 → head' ≡ after n) → ((head ≡ n + 1 → ⊥) → head' ≡ head)
      → ((e : ℕ) → on' e → after n ≡ e + 1 → before' e ≡ before n)
      → ((e : ℕ) → on' e → (after n ≡ e + 1 → ⊥) → before' e ≡ before e)
      → GoesBack on head after before → IsList on' head' after' before' rank'
  lost_list {head'} moved stays around before_same b =
      record { ranked = lost head' moved stays; back = lost_back head' moved stays around before_same b }
