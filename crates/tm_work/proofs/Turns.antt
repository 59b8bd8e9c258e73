-- A turn keeps the ledger in agreement with the board.
use Rattle.std.proofs.Common.{◌≡◌, ◌≢◌, ◌⊎◌, ℕ, zero, suc, ◌+◌, ◌-◌, ◌%◌, ◌<◌, ◌≤◌, List, [], ◌∷◌, ◌++◌, length, drop}
use Rattle.std.proofs.Common.{Some, None, Option, Bool, true, cond, eqb, refl, sym, ap, ◌∙◌, subst, ⊎_elim, inl, inr}
use Rattle.std.proofs.Common.{arith, eq-eqb, ne_eqb, length-append}
use Rattle.std.specs.Prelude.{slice_get, slice_set, IfSome, All}
use Rattle.std.proofs.lemmas.List.Elements.{All-append, All-head, All-tail}
use mathlib.Core.Logic.{dite}
use native.Mathlib.Decide.{ℕ_discrete}
use Rattle.std.proofs.Math.Seq.{drop-append_seam, drop-length}
use Rattle.std.proofs.lemmas.List.{append_assoc, append-nil, drop_all, drop-append-le}
use Rattle.std.proofs.lemmas.List.Sums.{sum_by-append, sum_by-cons, count_by-le-length}
use Rattle.std.proofs.lemmas.Option.{get_or_from_slice_get, slice_get_within}
use Rattle.tm_ledger.proofs.Moves.{slice_get_front, slice_get_last, slice_get_same, slice_get_other}
use Rattle.tm_model.specs.declared.outcome.Outcome.{Outcome}
use Rattle.tm_model.specs.declared.outcome.Outcome.TheVariants.{Idle}
use Rattle.tm_hist.specs.Board.{AreSteps, ShownBoard, IsStopped, IsFull, pairs_behind}
use Rattle.tm_work.specs.declared.progress.Progress.{Progress}
use Rattle.tm_work.specs.declared.progress.Receipt.{Receipt}
use Rattle.tm_work.specs.Seats.{SeatProgress, seat_with, SeatTells, no_progress, HaveNoProgress, AreSeats, IsLast}
use Rattle.tm_work.specs.Seats.{IsLater, IsReceipt, IsStepMade, TellsLast, progress_of, progress_after_step}
use Rattle.tm_work.specs.Seats.{progress_at_end, count, new_part, GoesOn, Tells, LedgerAgrees, AreStepsMade}

count_snoc : (c : ℕ) (h : List (ℕ × Outcome)) (x : ℕ × Outcome)
    → count c (h ++ x ∷ []) ≡ count c h + cond (eqb x.0 c) 1 0
count_snoc c h x = omega (arith, sum_by-append (λ (y : ℕ × Outcome). cond (eqb y.0 c) 1 0) h (x ∷ []))

count_same : (c : ℕ) (h : List (ℕ × Outcome)) (o : Outcome) → count c (h ++ (c, o) ∷ []) ≡ count c h + 1
count_same c h o = count_snoc c h (c, o) ∙ ap (λ b. count c h + cond b 1 0) (eq-eqb c c refl)

count_other : (c k : ℕ) (h : List (ℕ × Outcome)) (o : Outcome) → c ≢ k → count k (h ++ (c, o) ∷ []) ≡ count k h
count_other c k h o n = let e = count_snoc k h (c, o) ∙ ap (λ b. count k h + cond b 1 0) (ne_eqb c k n) in omega arith

part_more : (g xs ys : List (ℕ × Outcome)) → xs ≡ g ++ drop (length g) xs
    → drop (length g) (xs ++ ys) ≡ drop (length g) xs ++ ys
part_more g xs ys e =
    let h : List (ℕ × Outcome) = drop (length g) xs in
    ap (λ l. drop (length g) (l ++ ys)) e ∙ ap (λ l. drop (length g) l) (append_assoc g h ys)
    ∙ drop-append_seam g (h ++ ys)

if_some_map : {A : Type 0} (o : Option A) (P Q : A → Type 0) → ((a : A) → P a → Q a) → IfSome o P → IfSome o Q
if_some_map (Some a) P Q f h = f a h
if_some_map None P Q f h = tt

-- steps behind one, where the history got more
behind_more : (c index : ℕ) (h more : List (ℕ × Outcome)) → index < length h → count c (drop (index + 1) h) ≡ 0
    → count c more ≡ 0 →
    count c (drop (index + 1) (h ++ more)) ≡ 0
behind_more c index h more within none other =
    let parts = ap (λ l. count c l) (drop-append-le (index + 1) h more (omega arith)) in
    let both = sum_by-append (λ (y : ℕ × Outcome). cond (eqb y.0 c) 1 0) (drop (index + 1) h) more in
    omega arith

behind_last : (c index : ℕ) (h : List (ℕ × Outcome)) → index + 1 ≡ length h → count c (drop (index + 1) h) ≡ 0
behind_last c index h last = ap (λ l. count c l) (drop_all (index + 1) h (omega arith))

receipt_of : (given b : ShownBoard) (c : ℕ) (o : Option Receipt) → TellsLast given b c o
    → IfSome o (IsReceipt given b c)
receipt_of given b c None h = tt
receipt_of given b c (Some q) h = h

All_one : {X : Type 0} (P : X → Type 0) (x : X) → P x → All P (x ∷ [])
All_one P x h zero d below = h
All_one P x h (suc k) d below = absurd (omega arith)

pub part_next : (given b b' : ShownBoard) (c : ℕ) (r : Receipt) → GoesOn given b → IsStepMade b b' c r
    → new_part given b' ≡ new_part given b ++ (c, r.outcome) ∷ []
part_next given b b' c r g made = ap (λ l. drop (length given.history) l) made.history
    ∙ part_more given.history b.history ((c, r.outcome) ∷ []) g.history

goes_on_step : (given b b' : ShownBoard) (c : ℕ) (r : Receipt) → GoesOn given b → IsStepMade b b' c r → GoesOn given b'
goes_on_step given b b' c r g made = record {
  same = record {
    program = made.same.program ∙ g.same.program;
    limits = made.same.limits ∙ g.same.limits;
    limit = made.same.limit ∙ g.same.limit;
  };
  history = made.history ∙ ap (λ l. l ++ (c, r.outcome) ∷ []) g.history
      ∙ append_assoc given.history (new_part given b) ((c, r.outcome) ∷ [])
      ∙ ap (λ l. given.history ++ l) (sym (part_next given b b' c r g made));
  none_idle =
      subst (All (λ (step : ℕ × Outcome). step.1 ≢ Idle)) (sym (part_next given b b' c r g made))
      (All-append (λ (step : ℕ × Outcome). step.1 ≢ Idle) (new_part given b) ((c, r.outcome) ∷ []) g.none_idle
      (All_one (λ (step : ℕ × Outcome). step.1 ≢ Idle) (c, r.outcome) made.going));
}

-- the last step of another core, behind a step
last_kept : (given b b' : ShownBoard) (c : ℕ) (r : Receipt) (k : ℕ) (last : Option Receipt) → GoesOn given b
    → IsStepMade b b' c r → k ≢ c →
    TellsLast given b k last → TellsLast given b' k last
last_kept given b b' c r k None g made apart h =
    ap (λ l. count k l) (part_next given b b' c r g made)
    ∙ count_other c k (new_part given b) r.outcome (λ e. apart (sym e)) ∙ h
last_kept given b b' c r k (Some q) g made apart h = (
  h.0,
  ap (λ l. slice_get l q.index) made.history
      ∙ slice_get_front b.history ((c, r.outcome) ∷ []) q.index (k, q.outcome) h.1,
  ap (λ l. count k (drop (q.index + 1) l)) made.history
      ∙ behind_more k q.index b.history ((c, r.outcome) ∷ [])
      (slice_get_within b.history q.index (k, q.outcome) h.1) h.2
      (count_other c k [] r.outcome (λ e. apart (sym e))),
)

-- what another core's progress says
others : (given b b' : ShownBoard) (c : ℕ) (r : Receipt) (k : ℕ) (m : Progress) → GoesOn given b → IsStepMade b b' c r
    → k ≢ c → Tells given b k m → Tells given b' k m
others given b b' c r k m g made apart t = record {
  steps = t.steps ∙ sym (ap (λ l. count k l) (part_next given b b' c r g made)
      ∙ count_other c k (new_part given b) r.outcome (λ e. apart (sym e)));
  last = last_kept given b b' c r k m.last g made apart t.last;
  ended = λ e. ⊎_elim
      (λ (stopped : IsStopped b k). inl (made.stops k stopped))
      (λ (full : IsFull b). let room = made.room in absurd (omega arith))
      (t.ended e);
}

-- what its own progress says
own : (given b b' : ShownBoard) (c : ℕ) (r : Receipt) (m : Progress) → GoesOn given b → IsStepMade b b' c r
    → Tells given b c m → Tells given b' c (progress_after_step m r)
own given b b' c r m g made t = record {
  steps = ap (λ n. n + 1) t.steps
      ∙ sym (ap (λ l. count c l) (part_next given b b' c r g made) ∙ count_same c (new_part given b) r.outcome);
  last = (
    (let e = ap length g.history in let i = made.index in
        omega (arith, e, i, length-append given.history (new_part given b))),
    ap (λ l. slice_get l r.index) made.history ∙ ap (λ i. slice_get (b.history ++ (c, r.outcome) ∷ []) i) made.index
        ∙ slice_get_last b.history (c, r.outcome),
    behind_last c r.index b'.history
        (let long = ap length made.history in let i = made.index in
        omega (arith, long, i, length-append b.history ((c, r.outcome) ∷ []))),
  );
  ended = λ e. ⊎_elim (λ (stopped : IsStopped b c). absurd (made.stopped stopped))
      (λ (full : IsFull b). let room = made.room in absurd (omega arith)) (t.ended e);
}

-- a line is the one that was written, or another
line_cases : (ledger : List Progress) (c : ℕ) (old new : Progress) (P : ℕ → Progress → Type 0)
    → slice_get ledger c ≡ Some old → P c new → ((k : ℕ) (m : Progress) → k ≢ c → slice_get ledger k ≡ Some m → P k m)
    → (k : ℕ) (m : Progress) → slice_get (slice_set ledger c new) k ≡ Some m → P k m
line_cases ledger c old new P was mine rest k m is =
    dite (ℕ_discrete k c)
    (λ (e : k ≡ c).
    let here : slice_get (slice_set ledger c new) c ≡ Some new =
    slice_get_same ledger c new (slice_get_within ledger c old was) in
    let same : new ≡ m =
    let two : Some new ≡ Some m = sym here ∙ ap (λ i. slice_get (slice_set ledger c new) i) (sym e) ∙ is in cc in
    subst (λ (y : ℕ × Progress). P y.0 y.1) (λ i. (sym e i, same i)) mine)
    (λ n. rest k m n (sym (slice_get_other ledger c k new n) ∙ is))

pub step_agrees : (given b b' : ShownBoard) (ledger : List Progress) (c : ℕ) (r : Receipt) (m : Progress)
    → LedgerAgrees given b ledger → IsStepMade b b' c r → slice_get ledger c ≡ Some m
    → LedgerAgrees given b' (slice_set ledger c (progress_after_step m r))
step_agrees given b b' ledger c r m a made was = record {
  goes_on = goes_on_step given b b' c r a.goes_on made;
  lines = line_cases ledger c m _ (Tells given b') was (own given b b' c r m a.goes_on made (a.lines c m was))
      (λ k x n is. others given b b' c r k x a.goes_on made n (a.lines k x is));
}

pub look_agrees : (given b : ShownBoard) (ledger : List Progress) (c : ℕ) (m : Progress) → LedgerAgrees given b ledger
    → IsStopped b c ⊎ IsFull b → slice_get ledger c ≡ Some m
    → LedgerAgrees given b (slice_set ledger c (progress_at_end m))
look_agrees given b ledger c m a end was =
    let t = a.lines c m was in record {
      goes_on = a.goes_on;
      lines = line_cases ledger c m _ (Tells given b) was record { steps = t.steps; last = t.last; ended = λ _. end }
          (λ k x n is. a.lines k x is);
    }

-- where a line is written as it is
pub same_agrees : (given b : ShownBoard) (ledger : List Progress) (c : ℕ) (m : Progress) → LedgerAgrees given b ledger
    → slice_get ledger c ≡ Some m → LedgerAgrees given b (slice_set ledger c m)
same_agrees given b ledger c m a was = record {
  goes_on = a.goes_on;
  lines = line_cases ledger c m m (Tells given b) was (a.lines c m was) (λ k x n is. a.lines k x is);
}

pub turned : (given b b' : ShownBoard) (ledger ledger' : List Progress) (c c' : ℕ) (m : Progress) (r : Receipt)
    → LedgerAgrees given b ledger → c' ≡ c → IsStepMade b b' c' r → slice_get ledger c ≡ Some m
    → ledger' ≡ slice_set ledger c (progress_after_step m r) → LedgerAgrees given b' ledger'
turned given b b' ledger ledger' c c' m r a here made was written =
    subst (λ (l : List Progress). LedgerAgrees given b' l) (sym written)
    (step_agrees given b b' ledger c r m a (subst (λ (k : ℕ). IsStepMade b b' k r) here made) was)

pub looked : (given b b' : ShownBoard) (ledger ledger' : List Progress) (c c' : ℕ) (m : Progress)
    → LedgerAgrees given b ledger → c' ≡ c → b' ≡ b → IsStopped b c' ⊎ IsFull b → slice_get ledger c ≡ Some m
    → ledger' ≡ slice_set ledger c (progress_at_end m) → LedgerAgrees given b' ledger'
looked given b b' ledger ledger' c c' m a here board end was written =
    let end' : IsStopped b c ⊎ IsFull b = subst (λ (k : ℕ). IsStopped b k ⊎ IsFull b) here end in
    subst (λ (y : ShownBoard × List Progress). LedgerAgrees given y.0 y.1) (λ i. (sym board i, sym written i))
    (look_agrees given b ledger c m a end' was)

pub no_wrap : (given b : ShownBoard) (ledger : List Progress) (c : ℕ) (m : Progress) → LedgerAgrees given b ledger
    → slice_get ledger c ≡ Some m → length b.history < b.limit → b.limit ≤ 16777216
    → (m.steps + 1) % 18446744073709551616 ≡ m.steps + 1
no_wrap given b ledger c m a was room fits =
    let t = (a.lines c m was).steps in
    let k = count_by-le-length (λ (x : ℕ × Outcome). eqb x.0 c) (new_part given b) in
    let e = ap length a.goes_on.history in
    omega (arith, t, k, e, length-append given.history (new_part given b))

pub progress_of_turn : (m : Progress) (s : ℕ) (r : Receipt) (e : Bool) → s ≡ m.steps → e ≡ m.ended
    → (m.steps + 1) % 18446744073709551616 ≡ m.steps + 1
    → progress_of ((s + 1) % 18446744073709551616) (Some r) e ≡ progress_after_step m r
progress_of_turn m s r e steps ended fits =
    λ i. progress_of ((ap (λ n. (n + 1) % 18446744073709551616) steps ∙ fits) i) (Some r) (ended i)

-- ---- several steps of one core

abbrev IsOwn : ℕ → ℕ × Outcome → Type 0
IsOwn core step = (step.0 ≡ core) × (step.1 ≢ Idle)

count_own : (c : ℕ) (xs : List (ℕ × Outcome)) → All (IsOwn c) xs → count c xs ≡ length xs
count_own c [] h = refl
count_own c (x ∷ xs) h =
    let e : count c (x ∷ xs) ≡ cond (eqb x.0 c) 1 0 + count c xs =
    sum_by-cons (λ (y : ℕ × Outcome). cond (eqb y.0 c) 1 0) x xs in
    let one : cond {A = ℕ} (eqb x.0 c) 1 0 ≡ 1 =
    ap (λ b. cond {A = ℕ} b 1 0) (eq-eqb x.0 c (All-head (IsOwn c) x xs h).0) in
    let rest = count_own c xs (All-tail (IsOwn c) x xs h) in
    omega arith

count_apart : (c k : ℕ) (xs : List (ℕ × Outcome)) → c ≢ k → All (IsOwn c) xs → count k xs ≡ 0
count_apart c k [] n h = refl
count_apart c k (x ∷ xs) n h =
    let e : count k (x ∷ xs) ≡ cond (eqb x.0 k) 1 0 + count k xs =
    sum_by-cons (λ (y : ℕ × Outcome). cond (eqb y.0 k) 1 0) x xs in
    let none : cond {A = ℕ} (eqb x.0 k) 1 0 ≡ 0 =
    ap (λ b. cond {A = ℕ} b 1 0) (ne_eqb x.0 k (λ same. n (sym (All-head (IsOwn c) x xs h).0 ∙ same))) in
    let rest = count_apart c k xs n (All-tail (IsOwn c) x xs h) in
    omega arith

slice_get_behind : (xs ys : List (ℕ × Outcome)) (k : ℕ) → slice_get (xs ++ ys) (length xs + k) ≡ slice_get ys k
slice_get_behind [] ys k = let e : 0 + k ≡ k = omega arith in ap (slice_get ys) e
slice_get_behind (x ∷ xs) ys k = let e : suc (length xs) + k ≡ suc (length xs + k) = omega arith in
    ap (slice_get (x ∷ (xs ++ ys))) e ∙ slice_get_behind xs ys k

module _ (given b b' : ShownBoard) (c n : ℕ) (g : GoesOn given b) (s : AreSteps b b' c n)
    (room : length b'.history ≤ b'.limit) where
  abbrev more : List (ℕ × Outcome)
  more = pairs_behind b b'

  part_steps : new_part given b' ≡ new_part given b ++ more
  part_steps = ap (λ l. drop (length given.history) l) s.history ∙ part_more given.history b.history more g.history

  pub longer : length b'.history ≡ length b.history + n
  longer = ap length s.history ∙ length-append b.history more ∙ ap (λ k. length b.history + k) s.count

  goes_on_steps : GoesOn given b'
  goes_on_steps = record {
    same = record {
      program = s.same.program ∙ g.same.program;
      limits = s.same.limits ∙ g.same.limits;
      limit = s.same.limit ∙ g.same.limit;
    };
    history = s.history ∙ ap (λ l. l ++ more) g.history ∙ append_assoc given.history (new_part given b) more
        ∙ ap (λ l. given.history ++ l) (sym part_steps);
    none_idle =
        subst (All (λ (step : ℕ × Outcome). step.1 ≢ Idle)) (sym part_steps)
        (All-append (λ (step : ℕ × Outcome). step.1 ≢ Idle) (new_part given b) more g.none_idle
        (λ k d below. (s.own k d below).1));
  }

  still_full : IsFull b → IsFull b'
  still_full full = let l = longer in let same = s.same.limit in omega arith

  counted : (k : ℕ) → count k (new_part given b') ≡ count k (new_part given b) + count k more
  counted k =
      ap (λ l. count k l) part_steps ∙ sum_by-append (λ (y : ℕ × Outcome). cond (eqb y.0 k) 1 0) (new_part given b) more

  -- a receipt of the board before is one of the board after, where no step was the core's
  kept_receipt : (k : ℕ) (last : Option Receipt) → count k more ≡ 0 → TellsLast given b k last
      → TellsLast given b' k last
  kept_receipt k None none h = let all = counted k in omega arith
  kept_receipt k (Some q) none r = (
    r.0,
    ap (λ l. slice_get l q.index) s.history ∙ slice_get_front b.history more q.index (k, q.outcome) r.1,
    ap (λ l. count k (drop (q.index + 1) l)) s.history
        ∙ behind_more k q.index b.history more (slice_get_within b.history q.index (k, q.outcome) r.1) r.2 none,
  )

  others_steps : (k : ℕ) (m : Progress) → k ≢ c → Tells given b k m → Tells given b' k m
  others_steps k m apart t = record {
    steps = let all = counted k in let none = count_apart c k more (λ e. apart (sym e)) s.own in
        let was = t.steps in omega arith;
    last = kept_receipt k m.last (count_apart c k more (λ e. apart (sym e)) s.own) t.last;
    ended = λ e. ⊎_elim (λ (stopped : IsStopped b k). inl (s.stops k stopped))
        (λ (full : IsFull b). inr (still_full full)) (t.ended e);
  }

  last_own : (r : Receipt) (core : ℕ) → 0 < n → r.index + 1 ≡ length b'.history
      → slice_get b'.history r.index ≡ Some (core, r.outcome) → IsReceipt given b' c r
  last_own r core some index is =
      let l = longer in
      let at : r.index ≡ length b.history + (n - 1) = omega arith in
      let step : slice_get more (n - 1) ≡ Some (core, r.outcome) =
      sym (slice_get_behind b.history more (n - 1)) ∙ ap (λ x. slice_get (b.history ++ more) x) (sym at)
      ∙ ap (λ x. slice_get x r.index) (sym s.history) ∙ is in
      let within : n - 1 < length more = slice_get_within more (n - 1) (core, r.outcome) step in
      let own : core ≡ c =
      ap (λ (x : ℕ × Outcome). x.0) (sym (get_or_from_slice_get more (n - 1) (core, r.outcome) (core, r.outcome) step))
      ∙ (s.own (n - 1) (core, r.outcome) within).0 in
      let old = ap length g.history in (
        omega (arith, old, length-append given.history (new_part given b)),
        is ∙ ap (λ x. Some (x, r.outcome)) own,
        behind_last c r.index b'.history index,
      )

  last_steps : (m : Progress) (last : Option Receipt) → Tells given b c m → (n ≡ 0 → last ≡ m.last)
      → (0 < n → 0 < length b'.history → IsLast b' last) → TellsLast given b' c last
  last_steps m last t none some =
      dite (ℕ_discrete n 0)
      (λ (e : n ≡ 0). subst (λ (x : Option Receipt). TellsLast given b' c x) (sym (none e))
      (kept_receipt c m.last (let own = count_own c more s.own in let long = s.count in omega arith) t.last))
      (λ ne. let going : 0 < n = omega arith in let l = longer in
      let h : IsLast b' last = some going (omega arith) in
      subst (λ (x : Option Receipt). TellsLast given b' c x) (sym h.is)
      (last_own h.receipt h.core going h.index h.step))

  later_than : (was : Option Receipt) (r : Receipt) → IfSome was (IsReceipt given b c) → 0 < n
      → r.index + 1 ≡ length b'.history → IsLater was (Some r)
  later_than None r h some index = tt
  later_than (Some q) r h some index =
      let within = slice_get_within b.history q.index (c, q.outcome) h.1 in let l = longer in omega arith

  later_steps : (m : Progress) (last : Option Receipt) → Tells given b c m → 0 < n
      → (0 < n → 0 < length b'.history → IsLast b' last) → IsLater m.last last
  later_steps m last t some is =
      let l = longer in
      let h : IsLast b' last = is some (omega arith) in
      subst (λ (x : Option Receipt). IsLater m.last x) (sym h.is)
      (later_than m.last h.receipt (receipt_of given b c m.last t.last) some h.index)

  fits_steps : (m : Progress) → Tells given b c m → length b'.history ≤ 16777216
      → (m.steps + n) % 18446744073709551616 ≡ m.steps + n
  fits_steps m t few =
      let was = t.steps in
      let k = count_by-le-length (λ (x : ℕ × Outcome). eqb x.0 c) (new_part given b) in
      let e = ap length g.history in
      let l = longer in
      omega (arith, was, k, e, length-append given.history (new_part given b))

  own_steps : (m : Progress) (last : Option Receipt) (ended : Bool) → Tells given b c m → length b'.history ≤ 16777216 →
      (n ≡ 0 → last ≡ m.last) → (0 < n → 0 < length b'.history → IsLast b' last)
      → (ended ≡ true → (m.ended ≡ true) ⊎ (IsStopped b' c ⊎ IsFull b')) →
      Tells given b' c (progress_of ((m.steps + n) % 18446744073709551616) last ended)
  own_steps m last ended t few none some ends = record {
    steps = let all = counted c in let own = count_own c more s.own in let long = s.count in let was = t.steps in
        fits_steps m t few ∙ omega arith;
    last = last_steps m last t none some;
    ended = λ e. ⊎_elim
        (λ (was : m.ended ≡ true). ⊎_elim (λ (stopped : IsStopped b c). inl (s.stops c stopped))
        (λ (full : IsFull b). inr (still_full full)) (t.ended was))
        (λ (now : IsStopped b' c ⊎ IsFull b'). now)
        (ends e);
  }

-- the progress of the core that made the steps, in any ledger that agrees
pub steps_made : (b b' : ShownBoard) (c n : ℕ) (m : Progress) (last : Option Receipt) (ended : Bool) → AreSteps b b' c n
    → length b'.history ≤ b'.limit → length b'.history ≤ 16777216 →
    (n ≡ 0 → last ≡ m.last) → (0 < n → 0 < length b'.history → IsLast b' last)
    → (ended ≡ true → (m.ended ≡ true) ⊎ (IsStopped b' c ⊎ IsFull b')) →
    AreStepsMade b b' c m (progress_of ((m.steps + n) % 18446744073709551616) last ended) n
steps_made b b' c n m last ended s room few none some ends = record {
  agrees = λ given ledger a was. record {
    goes_on = goes_on_steps given b b' c n a.goes_on s room;
    lines = line_cases ledger c m _ (Tells given b') was
        (own_steps given b b' c n a.goes_on s room m last ended (a.lines c m was) few none some ends)
        (λ k x apart is. others_steps given b b' c n a.goes_on s room k x apart (a.lines k x is));
  };
  steps = λ given ledger a was. fits_steps given b b' c n a.goes_on s room m (a.lines c m was) few;
  later = λ given ledger a was going. later_steps given b b' c n a.goes_on s room m last (a.lines c m was) going some;
  same = none;
  alone = λ given g. (pairs_behind b b', part_steps given b b' c n g s room, s.alone);
}

pub last_before : (given b : ShownBoard) (ledger : List Progress) (c : ℕ) (m : Progress) (n : ℕ)
    → LedgerAgrees given b ledger → slice_get ledger c ≡ Some m → n ≡ length b.history
    → IfSome m.last (λ q. q.index < n)
last_before given b ledger c m n a was here =
    if_some_map m.last _ _ (λ q h. let k = slice_get_within b.history q.index (c, q.outcome) h.1 in omega arith)
    (receipt_of given b c m.last (a.lines c m was).last)

-- the board given, where no seat had a turn
pub fresh_agrees : (given b : ShownBoard) (ledger : List Progress) → b ≡ given → HaveNoProgress ledger
    → LedgerAgrees given b ledger
fresh_agrees given b ledger same fresh_all = subst (λ (y : ShownBoard). LedgerAgrees given y ledger) (sym same) record {
  goes_on = record {
    same = record { program = refl; limits = refl; limit = refl };
    history = sym (append-nil given.history) ∙ ap (λ l. given.history ++ l) (sym (drop-length given.history));
    none_idle = subst (All (λ (step : ℕ × Outcome). step.1 ≢ Idle)) (sym (drop-length given.history))
        (λ k d below. absurd (omega arith));
  };
  lines = λ c m is. subst (Tells given given c) (sym (fresh_all c m is)) record {
    steps = ap (λ l. count c l) (sym (drop-length given.history));
    last = ap (λ l. count c l) (drop-length given.history);
    ended = λ e. absurd (cc);
  };
}

pub fresh_more : (ledger : List Progress) → HaveNoProgress ledger → HaveNoProgress (ledger ++ no_progress ∷ [])
fresh_more [] h zero m is = cc
fresh_more [] h (suc k) m is = absurd (cc)
fresh_more (x ∷ xs) h zero m is = h zero m is
fresh_more (x ∷ xs) h (suc k) m is = fresh_more xs (λ j n e. h (suc j) n e) k m is

pub seats_more : (seats : List SeatProgress) (n : ℕ) → AreSeats seats n
    → AreSeats (seats ++ seat_with n no_progress ∷ []) (n + 1)
seats_more seats n h = (
  (let l = h.0 in omega (arith, l, length-append seats (seat_with n no_progress ∷ []))),
  λ k below. dite (ℕ_discrete k n)
      (λ (e : k ≡ n). ap (λ i. slice_get (seats ++ seat_with n no_progress ∷ []) i) (e ∙ sym h.0)
      ∙ slice_get_last seats (seat_with n no_progress) ∙ ap (λ i. Some (seat_with i no_progress)) (sym e))
      (λ ne. slice_get_front seats (seat_with n no_progress ∷ []) k (seat_with k no_progress) (h.1 k (omega arith))),
)

pub told_more : (given b b' : ShownBoard) (seats : List SeatProgress) (s : SeatProgress) → b' ≡ b
    → All (SeatTells given b) seats → SeatTells given b' s → All (SeatTells given b') (seats ++ s ∷ [])
told_more given b b' seats s same h t =
    All-append (SeatTells given b') seats (s ∷ [])
    (subst (λ (y : ShownBoard). All (SeatTells given y) seats) (sym same) h) (All_one (SeatTells given b') s t)
